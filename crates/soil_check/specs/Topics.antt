-- `check`, `info` and `view`, with their switches, topics and numbers.
use Rattle.std.specs.Prelude.{ℕ, ◌^◌, nat_lt, ℤ, pos, negsuc, true, false, if◌then◌else◌, List, codes, Option, Some, None}
use Rattle.std.specs.Option.{option_map_or}
use Rattle.use_text.specs.declared.place.Place.{Place}
use Rattle.use_text.specs.declared.token.TokenKind.TheVariants as k
use Rattle.use_text.specs.Pieces.{same_text}
use Rattle.grammar_core.specs.Trees.{ParseTree}
use Rattle.use_nodes.specs.declared.commands.CheckNode.{CheckNode}
use Rattle.use_nodes.specs.declared.commands.InfoNode.{InfoNode}
use Rattle.use_nodes.specs.declared.commands.ViewNode.{ViewNode}
use Rattle.use_nodes.specs.Nodes.{is_token}
use Rattle.use_decls.specs.Names.{LexedText, name_at, number_at}
use Rattle.class_decls.specs.declared.decls.Name.{Name}
use Rattle.ocl_rules.specs.Typings.{Typing, breaks_n}
use Rattle.ocl_shapes.specs.Combining.{◌>>=◌, pure}
use Rattle.soil_scope.specs.Scenes.{Scene}
use Rattle.soil_types.specs.ObjectForms.{class_wanted}
use Rattle.soil_check.specs.declared.checked.Checked.{Checked}
use Rattle.soil_check.specs.declared.checked.Checked.TheVariants as c
use Rattle.soil_check.specs.declared.checked.Topic.{Topic}
use Rattle.soil_check.specs.declared.checked.Topic.TheVariants as topic

-- the only switch of `check` is `-d`; another breaks N3
abbrev pub check_switched : Name → Typing Checked
check_switched name = if same_text name.text (codes "d") then pure (c.Check true) else breaks_n 3 name.place

unfoldable pub check : LexedText → CheckNode → Typing Checked
check l node = option_map_or (λ t. check_switched (name_at l t)) node.option (pure (c.Check false))

-- the topics that are names; another breaks N3
abbrev pub topic_named : List ℕ → Option Topic
topic_named name =
    if same_text name (codes "state") then Some topic.State
    else (if same_text name (codes "vars") then Some topic.Vars
    else (if same_text name (codes "opstack") then Some topic.Opstack
    else (if same_text name (codes "script") then Some topic.Script
    else (if same_text name (codes "use") then Some topic.Use else None))))

abbrev pub topic_or : Place → Option Topic → Typing Topic
topic_or place None = breaks_n 3 place
topic_or place (Some t) = pure t

unfoldable pub subject : LexedText → ParseTree → Typing Topic
subject l t = if is_token k.Model t then pure topic.Model else topic_or (name_at l t).place (topic_named (name_at l t).text)

-- what is no class breaks T13
unfoldable pub topic_of : Scene → InfoNode → Option ParseTree → Typing Topic
topic_of s node None = subject s.lexed node.subject
topic_of s node (Some t) = do
  class ← class_wanted s.model (name_at s.lexed t)
  pure (topic.Class class)

unfoldable pub info : Scene → InfoNode → Typing Checked
info s node = do
  t ← topic_of s node node.class
  pure (c.Info t)

-- the number of a view; one that no view has is 0
abbrev pub view_number : Option ℤ → ℕ
view_number None = 0
view_number (Some (pos n)) = if nat_lt n (2 ^ 32) then n else 0
view_number (Some (negsuc n)) = 0

-- the only word before the number is `drop`; another breaks N3
abbrev pub view_dropped : Name → ℕ → Typing Checked
view_dropped name number = if same_text name.text (codes "drop") then pure (c.Drop number) else breaks_n 3 name.place

unfoldable pub view : LexedText → ViewNode → Typing Checked
view l node =
    if is_token k.Int node.subject then pure (c.Show (view_number (number_at l node.number)))
    else view_dropped (name_at l node.subject) (view_number (number_at l node.number))
