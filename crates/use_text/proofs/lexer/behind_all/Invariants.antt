use Rattle.std.proofs.Common.{◌≡◌, take}
use Rattle.use_text.specs.Places.{behind_all, IsAdvanced}
use Rattle.use_text.proofs.lexer.behind_all.Given as goal

abbrev pub invariant-bytes : goal.invariant-bytes
invariant-bytes l = record {
  so_far : l.place ≡ behind_all l.fn.place (take l.b-index l.bytes);
  advanced : IsAdvanced l.fn.place l.place l.b-index;
}
