use Rattle.grammar_core.specs.Arena.{root_tree}
use Rattle.model_check.specs.Programs.{reading_by}
use Rattle.model_check.proofs.Kept.{is_program}
use Rattle.model_check.proofs.program.program_of.Goals as goal

pub new-requires : goal.new-requires
new-requires c =
    let parsed = c.args.parsed.now in
    is_program (reading_by c.args.model (record { text = parsed.text; tokens = parsed.tokens }) c.args.names.now) c.has_numbers_in_range.ensures
    (root_tree parsed.tree) c.in_ok-invariants.field-0 c.in_ok-invariants.ensures c.requires.contracts
