-- Lists that grew part by part.
use Rattle.std.proofs.Common.{◌≡◌, List, ◌++◌, ap, ◌∙◌, append_assoc}

pub joined2 : {A : Type 0} (b x y n m : List A) → n ≡ b ++ x → m ≡ n ++ y → m ≡ b ++ (x ++ y)
joined2 b x y n m p q = q ∙ ap (λ l. l ++ y) p ∙ append_assoc b x y

pub joined4 : {A : Type 0} (b x y z w n m k l : List A) → n ≡ b ++ x → m ≡ n ++ y → k ≡ m ++ z → l ≡ k ++ w → l ≡ b ++ (x ++ y ++ z ++ w)
joined4 b x y z w n m k l p q r s = joined2 b (x ++ y ++ z) w k l (joined2 b (x ++ y) z m k (joined2 b x y n m p q) r) s
