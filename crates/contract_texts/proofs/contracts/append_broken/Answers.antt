use Rattle.std.proofs.Common.{◌≡◌, List, ℕ, ◌++◌, ap, ◌∙◌, append_assoc}
use Rattle.std.specs.Prelude.{codes}
use Rattle.std.proofs.lemmas.Result.{on_ok_weaker}
use Rattle.use_text.specs.Codes.{code_text}
use Rattle.use_text.specs.Places.{place_text}
use Rattle.contract_texts.specs.ContractLines.{contract_text, judged_text, kind_text}
use Rattle.contract_texts.proofs.contracts.append_broken.Goals as goal

-- a text, and then five others
behind : (o h a b c d e now new : List ℕ) → now ≡ o ++ h → new ≡ now ++ a ++ b ++ c ++ d ++ e → new ≡ o ++ (h ++ a ++ b ++ c ++ d ++ e)
behind o h a b c d e now new f g = g ∙ ap (λ x. x ++ a ++ b ++ c ++ d ++ e) f ∙ simp append_assoc

pub returns : goal.returns
returns c =
    let r = c.args.refusal in
    on_ok_weaker c.append_judged.result
    (λ last.
    behind c.args.out.now.items (codes "refused " ++ code_text r.code ++ codes " at " ++ place_text r.place ++ codes ": ") (kind_text r.code.number)
    (contract_text c.args.program.now c.args.contract) (codes " is ") (judged_text c.args.value.now) (codes "\n") c.append_refused.new.out.items
    c.append_judged.new.out.items c.in_ok-append_refused.ensures last)
    c.append_judged.ensures
