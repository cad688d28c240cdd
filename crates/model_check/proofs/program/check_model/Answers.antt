use Rattle.std.proofs.Common.{◌≡◌, ◌<◌, ◌≤◌, ◌^◌, Err, List, Result, ap, arith, length, map, rules, subst, sym, ℕ, ◌∙◌}
use Rattle.std.proofs.lemmas.List.{length-map}
use Rattle.grammar_core.specs.Arena.{root_tree}
use Rattle.use_decls.specs.Names.{LexedText}
use Rattle.class_decls.specs.declared.decls.CondDecl.{CondDecl}
use Rattle.class_decls.specs.declared.decls.Decls.{Decls}
use Rattle.ocl_core.specs.declared.program.ProgramParts.{ProgramParts}
use Rattle.model_check.specs.declared.fault.ModelFault.{ModelFault}
use Rattle.model_check.specs.Faults.{of_rules}
use Rattle.model_check.specs.Few.{HasFewParameters}
use Rattle.model_check.specs.Programs.{Checks, program_by}
use Rattle.model_check.proofs.Answering.{many_told, program_told, rules_told}
use Rattle.model_check.proofs.FewParameters.{few_parameters}
use Rattle.model_check.proofs.program.check_model.Goals as goal

pub returns-in_err-model : goal.returns-in_err-model
returns-in_err-model c =
    let parsed = c.args.parsed.now in
    let l : LexedText = record { text = parsed.text; tokens = parsed.tokens } in
    let t = root_tree parsed.tree in
    let fault = c.in_err-model.field-0.0 in
    let is : c.from_residual-in_err-model.result ≡ Err (of_rules fault) = search rules in
    subst (λ (d : Decls). Checks (program_by l d t) c.from_residual-in_err-model.result) c.in_ok-decls.ensures
    (subst (λ (r : Result ProgramParts ModelFault). Checks (program_by l c.in_ok-decls.decls t) r) (sym is)
    (rules_told l c.in_ok-decls.decls t fault c.in_err-model.ensures))

pub returns-then-len-ge-MAX_CONDITIONS : goal.returns-then-len-ge-MAX_CONDITIONS
returns-then-len-ge-MAX_CONDITIONS c =
    let parsed = c.args.parsed.now in
    let l : LexedText = record { text = parsed.text; tokens = parsed.tokens } in
    let t = root_tree parsed.tree in
    let ds = c.in_ok-decls.decls in
    let named : c.in_ok-names.names ≡ map (λ (d : CondDecl). d.name.text) ds.conds =
    c.in_ok-names.ensures ∙ ap (λ (ds : List CondDecl). map (λ (d : CondDecl). d.name.text) ds) c.as_slice.ensures in
    let count : length c.in_ok-names.names ≡ length ds.conds =
    ap (λ (ns : List (List ℕ)). length ns) named ∙ length-map ds.conds (λ (d : CondDecl). d.name.text) in
    let many : 2 ^ 32 ≤ length ds.conds = omega (arith, count) in
    subst (λ (d : Decls). Checks (program_by l d t) (Err c.too_many_contracts.result)) c.in_ok-decls.ensures
    (subst (λ (e : ModelFault). Checks (program_by l ds t) (Err e)) (sym c.too_many_contracts.ensures) (many_told l ds t c.in_ok-model.ensures.0 many))

pub program_of-requires-clause-parameters : goal.program_of-requires-clause-parameters
program_of-requires-clause-parameters c =
    subst HasFewParameters (sym c.in_ok-model.ensures.1) (few_parameters c.in_ok-decls.decls c.in_ok-model.ensures.0)

pub returns : goal.returns
returns c =
    let parsed = c.args.parsed.now in
    let l : LexedText = record { text = parsed.text; tokens = parsed.tokens } in
    let t = root_tree parsed.tree in
    let ds = c.in_ok-decls.decls in
    let named : c.as_slice-2.result.now ≡ map (λ (d : CondDecl). d.name.text) ds.conds =
    c.as_slice-2.ensures ∙ c.in_ok-names.ensures ∙ ap (λ (ds : List CondDecl). map (λ (d : CondDecl). d.name.text) ds) c.as_slice.ensures in
    let same = ap (λ (ns : List (List ℕ)). length ns) c.as_slice-2.ensures in
    let few : length c.as_slice-2.result.now < 2 ^ 32 = omega (arith, same) in
    subst (λ (d : Decls). Checks (program_by l d t) c.program_of.result) c.in_ok-decls.ensures
    (program_told l ds t c.in_ok-model.ensures.0 c.in_ok-model.model c.as_slice-2.result.now c.program_of.result c.in_ok-model.ensures.1 named few c.program_of.ensures)
