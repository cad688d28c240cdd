use Rattle.std.proofs.Common.{◌∙◌, ◌||◌, Bor, List, ℕ, ap, bytes_eq, not, sym}
use Rattle.std.specs.HashSet.{contains_by}
use Rattle.class_decls.specs.Texts.{has_text, same_text}
use Rattle.class_decls.proofs.Distinct.{has_key, or_at}
use Rattle.class_decls.proofs.name_set.NameSet.add.Goals as goal

pub returns-clause-new : goal.returns-clause-new
returns-clause-new c =
    c.in_ok-new.ensures.added
    ∙ ap not (sym (ap (λ l. has_text l c.args.text.now) (sym c.self.view_is) ∙ has_key c.self.inside.names c.args.text.now))

pub returns-clause-names : goal.returns-clause-names
returns-clause-names c = λ t.
    let q : Bor (List ℕ) = record { ref_ptr = (0, 0); now = t } in
    let had = ap (λ l. has_text l t) (sym c.self.view_is) ∙ has_key c.self.inside.names t in
    has_key c.insert.new.self t ∙ c.in_ok-new.ensures.updates.0 q
    ∙ or_at (same_text c.args.text.now t) (contains_by (λ k. bytes_eq t k.now) c.self.inside.names)
    ∙ ap (λ b. b || same_text c.args.text.now t) (sym had)
