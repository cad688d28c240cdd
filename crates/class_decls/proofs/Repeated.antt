-- Names that follow one of the same name, from the end of a list on.
use Rattle.std.proofs.Common.{◌≡◌, ℕ, zero, suc, ◌+◌, ◌<◌, ◌≤◌, cond, List, [], ◌∷◌, length, get_or, drop, refl, arith}
use Rattle.class_decls.specs.declared.entry.Entry.{Entry}
use Rattle.class_decls.specs.Entries.{again, is_same_name}

pub again-end : (xs : List Entry) (k : ℕ) → length xs ≤ k + 1 → again (drop k xs) ≡ []
again-end [] zero h = refl
again-end [] (suc k) h = refl
again-end (a ∷ []) zero h = refl
again-end (a ∷ []) (suc k) h = again-end [] k (omega arith)
again-end (a ∷ b ∷ rest) zero h = absurd (omega arith)
again-end (a ∷ b ∷ rest) (suc k) h = again-end (b ∷ rest) k (omega arith)

again-suc : (xs : List Entry) (k : ℕ) (a b : Entry) → k + 1 < length xs → a ≡ get_or xs k a → b ≡ get_or xs (suc k) b →
    again (drop k xs) ≡ cond (is_same_name a b) (b.place ∷ again (drop (suc k) xs)) (again (drop (suc k) xs))
again-suc [] k a b h p q = absurd (omega arith)
again-suc (x ∷ []) k a b h p q = absurd (omega arith)
again-suc (x ∷ y ∷ rest) zero a b h p q = rw (p, q) refl
again-suc (x ∷ y ∷ rest) (suc k) a b h p q = again-suc (y ∷ rest) k a b (omega arith) p q

-- the names from j on, by the pair that stands there
pub again-drop : (xs : List Entry) (j k : ℕ) (a b : Entry) → k ≡ suc j → k < length xs → a ≡ get_or xs j a → b ≡ get_or xs k b →
    again (drop j xs) ≡ cond (is_same_name a b) (b.place ∷ again (drop k xs)) (again (drop k xs))
again-drop xs j k a b e h p q = rw e (again-suc xs j a b (omega arith) p (rw e at q))
