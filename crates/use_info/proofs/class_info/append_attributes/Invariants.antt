use Rattle.std.proofs.Common.{◌≡◌, ◌++◌, take}
use Rattle.std.specs.List.{flat_map}
use Rattle.use_info.specs.Classes.{attribute_line}
use Rattle.use_info.proofs.class_info.append_attributes.Given as goal

abbrev pub invariant-attrs : goal.invariant-attrs
invariant-attrs l = l.out.items ≡ l.initial.out.items ++ flat_map (attribute_line l.model) (take l.attr-index l.attrs)
