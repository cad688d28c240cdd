-- The empty state is valid.
use Rattle.std.proofs.Common.{◌≡◌, ℕ, ◌≤◌, List, [], Option, Some, None, sym, arith}
use Rattle.std.specs.List.Sorted.{IsStrictlySortedBy}
use Rattle.std.specs.Map.{keys_of}
use Rattle.std.specs.Ordering.{nat_cmp}
use Rattle.object_state.specs.declared.layout.Layout.{Layout}
use Rattle.object_state.specs.State.{empty, link_cmp, text_cmp}
use Rattle.object_state.specs.Valid.{IsValid}
use Rattle.object_state.proofs.Keyed.{some≢none}
use Rattle.std.specs.declared.cmp.Ordering.{Ordering}

sorted_none : {K : Type 0} (R : K → K → Ordering) → IsStrictlySortedBy R []
unfolding IsStrictlySortedBy
sorted_none R = tt

pub empty_valid : (l : Layout) → IsValid l empty
empty_valid l = record {
  objects = record {
    ordered = sorted_none nat_cmp;
    fit = omega arith;
    counter = omega arith;
    instances = λ o x e. absurd (some≢none x (sym e));
    names = λ o p x y e e' same. absurd (some≢none x (sym e));
    below = λ o x e. absurd (some≢none x (sym e));
  };
  links = record {
    ordered = sorted_none link_cmp;
    fit = omega arith;
    counter = omega arith;
    once = λ k m p e e' same. absurd (some≢none p (sym e));
    stamps = λ k m p q e e' same. absurd (some≢none p (sym e));
    below = λ k p e. absurd (some≢none p (sym e));
  };
  variables = record {
    ordered = sorted_none text_cmp;
    values = λ n v e. absurd (some≢none v (sym e));
  };
  apart = λ o x e. absurd (some≢none x (sym e));
  joins = λ k p e. absurd (some≢none p (sym e));
  light = omega arith;
}
