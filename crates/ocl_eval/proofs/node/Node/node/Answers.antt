use Rattle.std.proofs.Common.{All, subst, sym, rules}
use Rattle.std.specs.Prelude.{MatchOption, ⊤}
use Rattle.ocl_core.specs.declared.expression.Expr.{the_lemmas}
use Rattle.ocl_core.specs.declared.expression.Expr.TheOpen.{Expr-F}
use Rattle.ocl_core.specs.Trees.{IsSound}
use Rattle.ocl_eval.proofs.Literals.{parts_sound, sound_as, start_sound}
use Rattle.ocl_eval.proofs.node.Node.node.Goals as goal

pub unary-requires-clause-tree : goal.unary-requires-clause-tree
unary-requires-clause-tree g c = subst IsSound (sym c.get.ensures) (sound_as _ _ (Expr-F.Unary c.in-Unary.op c.in-Unary.a) c.requires.tree c.in-Unary.is
    (search (rules, the_lemmas)))

pub binary-requires-clause-first : goal.binary-requires-clause-first
binary-requires-clause-first g c = subst IsSound (sym c.get-in-Binary.ensures) ((sound_as _ _
    (Expr-F.Binary c.in-Binary.op c.in-Binary.a c.in-Binary.b) c.requires.tree c.in-Binary.is (search (rules, the_lemmas))).0)

pub binary-requires-clause-second : goal.binary-requires-clause-second
binary-requires-clause-second g c = subst IsSound (sym c.get-in-Binary-2.ensures) ((sound_as _ _
    (Expr-F.Binary c.in-Binary.op c.in-Binary.a c.in-Binary.b) c.requires.tree c.in-Binary.is (search (rules, the_lemmas))).1)

pub choice-requires-clause-test : goal.choice-requires-clause-test
choice-requires-clause-test g c = subst IsSound (sym c.get-in-If.ensures) ((sound_as _ _
    (Expr-F.If c.in-If.c c.in-If.a c.in-If.b) c.requires.tree c.in-If.is (search (rules, the_lemmas))).0)

pub choice-requires-clause-first : goal.choice-requires-clause-first
choice-requires-clause-first g c = subst IsSound (sym c.get-in-If-2.ensures) ((sound_as _ _
    (Expr-F.If c.in-If.c c.in-If.a c.in-If.b) c.requires.tree c.in-If.is (search (rules, the_lemmas))).1)

pub choice-requires-clause-second : goal.choice-requires-clause-second
choice-requires-clause-second g c = subst IsSound (sym c.get-in-If-3.ensures) ((sound_as _ _
    (Expr-F.If c.in-If.c c.in-If.a c.in-If.b) c.requires.tree c.in-If.is (search (rules, the_lemmas))).2)

pub bind-requires-clause-first : goal.bind-requires-clause-first
bind-requires-clause-first g c = subst IsSound (sym c.get-in-Let.ensures) ((sound_as _ _ (Expr-F.Let c.in-Let.a c.in-Let.b) c.requires.tree c.in-Let.is
    (search (rules, the_lemmas))).0)

pub bind-requires-clause-second : goal.bind-requires-clause-second
bind-requires-clause-second g c = subst IsSound (sym c.get-in-Let-2.ensures) ((sound_as _ _ (Expr-F.Let c.in-Let.a c.in-Let.b) c.requires.tree c.in-Let.is
    (search (rules, the_lemmas))).1)

pub attribute-requires-clause-tree : goal.attribute-requires-clause-tree
attribute-requires-clause-tree g c = subst IsSound (sym c.get-in-Attr.ensures) (sound_as _ _
    (Expr-F.Attr c.in-Attr.a c.in-Attr.number c.in-Attr.when) c.requires.tree c.in-Attr.is (search (rules, the_lemmas)))

pub derived_attribute-requires-clause-tree : goal.derived_attribute-requires-clause-tree
derived_attribute-requires-clause-tree g c = subst IsSound (sym c.get-in-Derived.ensures) (sound_as _ _
    (Expr-F.Derived c.in-Derived.a c.in-Derived.number c.in-Derived.when) c.requires.tree c.in-Derived.is (search (rules, the_lemmas)))

pub navigation-requires-clause-tree : goal.navigation-requires-clause-tree
navigation-requires-clause-tree g c = subst IsSound (sym c.get-in-Nav.ensures) (sound_as _ _
    (Expr-F.Nav c.in-Nav.a c.in-Nav.assoc c.in-Nav.end c.in-Nav.when) c.requires.tree c.in-Nav.is (search (rules, the_lemmas)))

pub type_test-requires-clause-tree : goal.type_test-requires-clause-tree
type_test-requires-clause-tree g c = subst IsSound (sym c.get-in-Test.ensures) (sound_as _ _
    (Expr-F.Test c.in-Test.test c.in-Test.a c.in-Test.asked c.in-Test.when) c.requires.tree c.in-Test.is (search (rules, the_lemmas)))

pub newness-requires-clause-tree : goal.newness-requires-clause-tree
newness-requires-clause-tree g c = subst IsSound (sym c.get-in-IsNew.ensures) (sound_as _ _ (Expr-F.IsNew c.in-IsNew.a) c.requires.tree c.in-IsNew.is
    (search (rules, the_lemmas)))

pub to_set-requires-clause-tree : goal.to_set-requires-clause-tree
to_set-requires-clause-tree g c = subst IsSound (sym c.get-in-ToSet.ensures) (sound_as _ _ (Expr-F.ToSet c.in-ToSet.a) c.requires.tree c.in-ToSet.is (search
    (rules, the_lemmas)))

pub called_query-requires-clause-tree : goal.called_query-requires-clause-tree
called_query-requires-clause-tree g c = subst IsSound (sym c.get-in-Query.ensures) ((sound_as _ _
    (Expr-F.Query c.in-Query.a c.in-Query.op c.in-Query.all) c.requires.tree c.in-Query.is (search (rules, the_lemmas))).0)

pub iterator-requires-clause-source : goal.iterator-requires-clause-source
iterator-requires-clause-source g c = subst IsSound (sym c.get-in-Iter.ensures) ((sound_as _ _
    (Expr-F.Iter c.in-Iter.op c.in-Iter.source c.in-Iter.count c.in-Iter.start c.in-Iter.body) c.requires.tree c.in-Iter.is (search (rules, the_lemmas))).0)

pub plain-requires-clause-trees : goal.plain-requires-clause-trees
plain-requires-clause-trees g c = subst (All IsSound) (sym c.as_slice-in-Plain.ensures) (sound_as _ _
    (Expr-F.Plain c.in-Plain.op c.in-Plain.all) c.requires.tree c.in-Plain.is (search (rules, the_lemmas)))

pub collection-requires-clause-trees : goal.collection-requires-clause-trees
collection-requires-clause-trees g c = subst (All IsSound) (sym c.as_slice-in-Coll.ensures) (sound_as _ _
    (Expr-F.Coll c.in-Coll.op c.in-Coll.all) c.requires.tree c.in-Coll.is (search (rules, the_lemmas)))

pub called_query-requires-clause-trees : goal.called_query-requires-clause-trees
called_query-requires-clause-trees g c = subst (All IsSound) (sym c.as_slice-in-Query.ensures) ((sound_as _ _
    (Expr-F.Query c.in-Query.a c.in-Query.op c.in-Query.all) c.requires.tree c.in-Query.is (search (rules, the_lemmas))).1)

pub make-requires-clause-trees : goal.make-requires-clause-trees
make-requires-clause-trees g c = parts_sound _ _ c.as_slice.ensures (sound_as _ _ (Expr-F.Make c.in-Make.kind c.in-Make.all) c.requires.tree c.in-Make.is
    (search (rules, the_lemmas)))

pub literal-requires : goal.literal-requires
literal-requires g c = sound_as _ _ (Expr-F.Literal c.in-Literal.value) c.requires.tree c.in-Literal.is (search (rules, the_lemmas))

pub iterator-requires-clause-start : goal.iterator-requires-clause-start
iterator-requires-clause-start g c =
    subst (λ o. MatchOption o ⊤ IsSound) (sym c.start_of-start.ensures) (start_sound c.in-Iter.start ((sound_as _ _
    (Expr-F.Iter c.in-Iter.op c.in-Iter.source c.in-Iter.count c.in-Iter.start c.in-Iter.body) c.requires.tree c.in-Iter.is (search
    (rules, the_lemmas))).1))

pub iterator-requires-clause-tree : goal.iterator-requires-clause-tree
iterator-requires-clause-tree g c =
    subst IsSound (sym c.get-in-Iter-2.ensures) ((sound_as _ _
    (Expr-F.Iter c.in-Iter.op c.in-Iter.source c.in-Iter.count c.in-Iter.start c.in-Iter.body) c.requires.tree c.in-Iter.is (search (rules, the_lemmas))).2)
