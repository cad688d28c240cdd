use Rattle.std.proofs.Common.{refl, sym}
use Rattle.class_rules.proofs.by_class.broken_at.Goals as goal

pub returns-in_ok-broken-in-AttributeMetTwice : goal.returns-in_ok-broken-in-AttributeMetTwice
returns-in_ok-broken-in-AttributeMetTwice c =
    rw (
      c.in-AttributeMetTwice.is,
      c.named_if.ensures,
      c.in_ok-broken-in-AttributeMetTwice.ensures,
      c.as_slice.ensures.value,
      c.in_ok-above-in-AttributeMetTwice.ensures,
      c.hierarchy-hierarchy.ensures,
    ) refl

pub returns-in_ok-broken-in-RoleClashes : goal.returns-in_ok-broken-in-RoleClashes
returns-in_ok-broken-in-RoleClashes c =
    rw (
      c.in-RoleClashes.is,
      c.named_if-in-RoleClashes.ensures,
      c.in_ok-broken-in-RoleClashes.ensures,
      c.as_slice-in-RoleClashes.ensures.value,
      c.in_ok-above-in-RoleClashes.ensures,
      c.hierarchy-hierarchy.ensures,
    ) refl

pub returns-in-SignatureChanges : goal.returns-in-SignatureChanges
returns-in-SignatureChanges c = rw (c.in-SignatureChanges.is, sym c.hierarchy-hierarchy.ensures) c.clash_above.ensures

pub returns-in_ok-broken-in-OperationAmbiguous : goal.returns-in_ok-broken-in-OperationAmbiguous
returns-in_ok-broken-in-OperationAmbiguous c =
    rw (
      c.in-OperationAmbiguous.is,
      c.named_if-in-OperationAmbiguous.ensures,
      c.in_ok-broken-in-OperationAmbiguous.ensures,
      c.as_slice-in-OperationAmbiguous.ensures.value,
      c.in_ok-numbers-in-OperationAmbiguous.ensures,
      c.hierarchy-hierarchy.ensures,
    ) refl

pub returns-in-BodiesMixed : goal.returns-in-BodiesMixed
returns-in-BodiesMixed c = rw (c.in-BodiesMixed.is, sym c.hierarchy-hierarchy.ensures) c.clash_above-in-BodiesMixed.ensures

pub returns-in_ok-broken-in-TooManyFeatures : goal.returns-in_ok-broken-in-TooManyFeatures
returns-in_ok-broken-in-TooManyFeatures c =
    rw (
      c.in-TooManyFeatures.is,
      c.named_if-in-TooManyFeatures.ensures,
      c.in_ok-broken-in-TooManyFeatures.ensures,
      c.as_slice-in-TooManyFeatures.ensures.value,
      c.in_ok-above-in-TooManyFeatures.ensures,
      c.hierarchy-hierarchy.ensures,
    ) refl

pub returns-in_ok-found-in-TooManyContracts : goal.returns-in_ok-found-in-TooManyContracts
returns-in_ok-found-in-TooManyContracts c =
    rw (
      c.in-TooManyContracts.is,
      c.in_ok-found-in-TooManyContracts.ensures,
      c.as_slice-in-TooManyContracts.ensures.value,
      c.in_ok-above-in-TooManyContracts.ensures,
      c.hierarchy-hierarchy.ensures,
    ) refl
