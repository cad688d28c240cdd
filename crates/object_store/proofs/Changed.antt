-- Lists of entries after calls that put and take.
use Rattle.std.proofs.Common.{◌≡◌, List, Option, None, sym, ap, ◌∙◌, subst, Ordering}
use Rattle.std.specs.BTreeMap.{insert_entry, is_at}
use Rattle.std.specs.Cmp.{IsTotalOrder}
use Rattle.std.specs.Map.{lookup, remove_entry}
use Rattle.std.specs.Prelude.{ℕ}
use Rattle.std.specs.Result.{IfOk}
use Rattle.std.specs.declared.result.Result.{Result}
use Rattle.std.specs.declared.result.Result.TheVariants.{Ok, Err}
use Rattle.object_store.specs.Indexes.{LinksAreTied}
use Rattle.object_state.proofs.Keyed.{remove_inserted}

pub restored : {K X : Type 0} {R : K → K → Ordering} (o : IsTotalOrder R) (es mid new : List (K × X)) (k k1 k2 : K) (v : X) → k1 ≡ k → k2 ≡ k
    → lookup (is_at (R k)) es ≡ None → mid ≡ insert_entry R es k1 v → new ≡ remove_entry (is_at (R k2)) mid → new ≡ es
restored {R = R} o es mid new k k1 k2 v s t free p q =
    q ∙ ap (λ m. remove_entry (is_at (R k2)) m) p ∙ (λ i. remove_entry (is_at (R (t i))) (insert_entry R es (s i) v)) ∙ remove_inserted o es k v free

pub if_ok : {T E : Type 0} {P Q : T → Type 0} (r : Result T E) → ((x : T) → P x → Q x) → IfOk r P → IfOk r Q
if_ok (Ok x) h p = h x p
if_ok (Err e) h p = tt

pub tied_as : (l l' : List ((ℕ × ℕ) × (ℕ × ℕ))) (s s' : ℕ × (ℕ × ℕ) → Option ℕ) (e e' f f' : ℕ × ℕ → List (ℕ × ℕ))
    → l' ≡ l → ((k : ℕ × (ℕ × ℕ)) → s' k ≡ s k) → ((k : ℕ × ℕ) → e' k ≡ e k) → ((k : ℕ × ℕ) → f' k ≡ f k) → LinksAreTied l s e f → LinksAreTied l' s' e' f'
tied_as l l' s s' e e' f f' p q r u t =
    subst (λ x. LinksAreTied x s' e' f') (sym p) (subst (λ x. LinksAreTied l x e' f') (λ i k. sym (q k) i)
    (subst (λ x. LinksAreTied l s x f') (λ i k. sym (r k) i) (subst (λ x. LinksAreTied l s e x) (λ i k. sym (u k) i) t)))
