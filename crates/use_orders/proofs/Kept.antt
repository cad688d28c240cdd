-- What holds of each element stays, and what is kept stays when it is kept again.
use Rattle.std.proofs.Common.{◌≡◌, ◌++◌, cond, fold, List, [], ◌∷◌, refl, ap, ◌∙◌, Ordering}
use Rattle.std.specs.Cmp.{IsTotalOrder}
use Rattle.std.specs.List.{AllByRecursion}
use Rattle.std.proofs.lemmas.Bool.{cond_both}
use Rattle.std.proofs.lemmas.List.Sums.{fold_push}
use Rattle.use_orders.specs.Canon.{has, add_new, bag_of, set_of, firsts_of}
use Rattle.use_orders.proofs.Bags.{all-insert_in}
use Rattle.use_orders.proofs.Sets.{all-insert_new}

all_push : {K : Type 0} (P : K → Type 0) (xs : List K) (x : K) → AllByRecursion P xs → P x → AllByRecursion P (xs ++ x ∷ [])
all_push P [] x all one = (one, tt)
all_push P (y ∷ ys) x all one = (all.0, all_push P ys x all.1 one)

module _ {K : Type 0} (cmp : K → K → Ordering) (P : K → Type 0) where
  pub all_bag : (xs : List K) → AllByRecursion P xs → AllByRecursion P (bag_of cmp xs)
  all_bag [] all = tt
  all_bag (x ∷ xs) all = all-insert_in cmp P (bag_of cmp xs) x all.0 (all_bag xs all.1)

  all_firsts_onto : (seen xs : List K) → AllByRecursion P seen → AllByRecursion P xs → AllByRecursion P (fold (add_new cmp) seen xs)
  all_firsts_onto seen [] a b = a
  all_firsts_onto seen (x ∷ xs) a b =
      all_firsts_onto (add_new cmp seen x) xs
      (cond_both (has cmp seen x) seen (seen ++ x ∷ []) (AllByRecursion P) (λ _. a) (λ _. all_push P seen x a b.0)) b.1

  pub all_firsts : (xs : List K) → AllByRecursion P xs → AllByRecursion P (firsts_of cmp xs)
  all_firsts xs all = all_firsts_onto [] xs tt all

module _ {K : Type 0} {cmp : K → K → Ordering} (o : IsTotalOrder cmp) where
  pub all_set : (P : K → Type 0) (xs : List K) → AllByRecursion P xs → AllByRecursion P (set_of cmp xs)
  all_set P [] all = tt
  all_set P (x ∷ xs) all = all-insert_new o P (set_of cmp xs) x all.0 (all_set P xs all.1)

module _ {K : Type 0} (cmp : K → K → Ordering) where
  stays : (seen : List K) (x : K) → firsts_of cmp seen ≡ seen → firsts_of cmp (add_new cmp seen x) ≡ add_new cmp seen x
  stays seen x same =
      cond_both (has cmp seen x) seen (seen ++ x ∷ []) (λ l. firsts_of cmp l ≡ l)
      (λ _. same)
      (λ f. fold_push (add_new cmp) [] seen x ∙ ap (λ l. add_new cmp l x) same ∙ ap (λ b. cond b seen (seen ++ x ∷ [])) f)

  stays_onto : (seen xs : List K) → firsts_of cmp seen ≡ seen → firsts_of cmp (fold (add_new cmp) seen xs) ≡ fold (add_new cmp) seen xs
  stays_onto seen [] same = same
  stays_onto seen (x ∷ xs) same = stays_onto (add_new cmp seen x) xs (stays seen x same)

  pub firsts_firsts : (xs : List K) → firsts_of cmp (firsts_of cmp xs) ≡ firsts_of cmp xs
  firsts_firsts xs = stays_onto [] xs refl
