-- What is read of the elements of a collection is in range where it stands.
use Rattle.std.proofs.Common.{◌≡◌, ℕ, suc, ◌+◌, ◌-◌, ◌<◌, subst, arith}
use Rattle.class_model.specs.declared.object_model.ObjectModel.{ObjectModel}
use Rattle.class_model.specs.declared.types.OclType.{OclType, more_of-OclType}
use Rattle.class_model.specs.declared.types.OclType.TheVariants as T
use Rattle.class_model.specs.InRange.{IsTypeOf}
use Rattle.ocl_core.specs.declared.expression.Expr.{Expr}
use Rattle.ocl_core.specs.declared.expression.Expr.TheVariants as E
use Rattle.ocl_core.specs.Kinds.{collected_kind}
use Rattle.ocl_rules.specs.declared.typed.Typed.{Typed}
use Rattle.ocl_rules.specs.CollectionOperations.{innermost}
use Rattle.ocl_rules.specs.Forms.{levels}
use Rattle.ocl_scope.specs.Collected.{collected, hidden_element}
use Rattle.ocl_scope.specs.Ranges.{IsExprAmong, IsTypedAmong}
use Rattle.ocl_scope.proofs.Found.{coll_there}
use Rattle.ocl_scope.proofs.Layers.{collect_among, local_among}

innermost_there : (m : ObjectModel) (t : OclType) → IsTypeOf m t → IsTypeOf m (innermost t)
innermost_there m T.Any h = tt
innermost_there m T.Void h = tt
innermost_there m T.Bool h = tt
innermost_there m T.Int h = tt
innermost_there m T.Str h = tt
innermost_there m (T.Enum e) h = h
innermost_there m (T.Class c) h = h
innermost_there m (T.Coll' kind shape (more_of-OclType element rest)) h = innermost_there m element h

pub hidden_there : (m : ObjectModel) (t : OclType) (n : ℕ) → IsTypeOf m t → 0 < levels t → IsTypedAmong m (n + levels t) (hidden_element t n)
hidden_there m t n h nested = record {
  expr = local_among m (n + levels t) (n + levels t - 1) (omega arith);
  of_type = innermost_there m t h;
}

-- among equally many values
among_so_many : (m : ObjectModel) (a b : ℕ) (t : Typed) → a ≡ b → IsTypedAmong m a t → IsTypedAmong m b t
among_so_many m a b t same h = subst (λ n. IsTypedAmong m n t) same h

pub collected_there : (m : ObjectModel) (t : OclType) (source : Expr) (n : ℕ) (read : Typed) → IsExprAmong m n source →
    IsTypedAmong m (n + levels t) read → IsTypedAmong m n (collected t source n read)
collected_there m T.Any source n read h k = among_so_many m (n + 0) n read (omega arith) k
collected_there m T.Void source n read h k = among_so_many m (n + 0) n read (omega arith) k
collected_there m T.Bool source n read h k = among_so_many m (n + 0) n read (omega arith) k
collected_there m T.Int source n read h k = among_so_many m (n + 0) n read (omega arith) k
collected_there m T.Str source n read h k = among_so_many m (n + 0) n read (omega arith) k
collected_there m (T.Enum e) source n read h k = among_so_many m (n + 0) n read (omega arith) k
collected_there m (T.Class c) source n read h k = among_so_many m (n + 0) n read (omega arith) k
collected_there m (T.Coll' kind shape (more_of-OclType element rest)) source n read h k =
    let inner : IsTypedAmong m (n + 1) (collected element (E.Local n) (n + 1) read) =
    collected_there m element (E.Local n) (n + 1) read (local_among m (n + 1) n (omega arith))
    (among_so_many m (n + suc (levels element)) (n + 1 + levels element) read (omega arith) k) in
    record {
      expr = collect_among m n source (collected element (E.Local n) (n + 1) read).expr h inner.expr;
      of_type = coll_there m (collected_kind kind) (innermost (collected element (E.Local n) (n + 1) read).of_type) (innermost_there m (collected element (E.Local n) (n + 1) read).of_type inner.of_type);
    }
