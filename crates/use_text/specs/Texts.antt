-- The texts of refusals, each with its number in its family.
use Rattle.std.specs.Prelude.{ℕ, List, [], ◌∷◌, codes}

abbrev pub k_texts : List (ℕ × List ℕ)
k_texts =
    (1, codes "command is too long") ∷
    (2, codes "block is not closed") ∷
    []

abbrev pub l_texts : List (ℕ × List ℕ)
l_texts =
    (1, codes "text is not UTF-8") ∷
    (2, codes "no token begins here") ∷
    (3, codes "number past the range") ∷
    (4, codes "string or comment is not closed") ∷
    (5, codes "name is too long") ∷
    []

abbrev pub s_texts : List (ℕ × List ℕ)
s_texts =
    (0, codes "form is not built yet") ∷
    (1, codes "unexpected token") ∷
    (2, codes "nested too deeply") ∷
    []

abbrev pub m_texts : List (ℕ × List ℕ)
m_texts =
    (1, codes "name is declared twice") ∷
    (2, codes "unknown class or type") ∷
    (3, codes "parent is named twice") ∷
    (4, codes "inheritance has a cycle") ∷
    (5, codes "attribute is met twice") ∷
    (6, codes "role clashes") ∷
    (7, codes "operation is declared twice") ∷
    (8, codes "overriding changes the signature") ∷
    (9, codes "operation is ambiguous") ∷
    (10, codes "query and statement bodies are mixed") ∷
    (11, codes "bad multiplicity") ∷
    (12, codes "no such operation") ∷
    (13, codes "too many classes") ∷
    (14, codes "too many attributes or operations") ∷
    (15, codes "too many associations") ∷
    (16, codes "too many invariants") ∷
    (17, codes "too many parameters or contracts") ∷
    (18, codes "too many enumerations or literals") ∷
    []

abbrev pub n_texts : List (ℕ × List ℕ)
n_texts =
    (1, codes "unknown name") ∷
    (2, codes "unknown property") ∷
    (3, codes "unknown literal, association, topic or switch") ∷
    []

abbrev pub t_texts : List (ℕ × List ℕ)
t_texts =
    (1, codes "operand of the wrong type") ∷
    (2, codes "wrong number of arguments") ∷
    (3, codes "argument of the wrong type") ∷
    (4, codes "condition is not Boolean") ∷
    (5, codes "value does not conform") ∷
    (6, codes "operation is not for this collection") ∷
    (7, codes "iterator is not well formed") ∷
    (8, codes "type where a value is wanted, or the contrary") ∷
    (9, codes "only in postconditions") ∷
    (10, codes "operation is not a query") ∷
    (11, codes "cannot be assigned or called") ∷
    (12, codes "result is missing or not wanted") ∷
    (13, codes "not a class") ∷
    (14, codes "object is wanted") ∷
    (15, codes "collection is wanted") ∷
    (16, codes "expression is too deep") ∷
    []

abbrev pub x_texts : List (ℕ × List ℕ)
x_texts =
    (1, codes "name is taken") ∷
    (2, codes "class is abstract") ∷
    (3, codes "link is there already") ∷
    (4, codes "no such link") ∷
    (5, codes "no such object") ∷
    (6, codes "too many objects") ∷
    (7, codes "too many links") ∷
    (8, codes "state is too large") ∷
    (9, codes "operation has no body") ∷
    (10, codes "condition is null or invalid") ∷
    (11, codes "collection is null or invalid") ∷
    (12, codes "value is invalid or holds a destroyed object") ∷
    (13, codes "command changes too much") ∷
    (14, codes "not a name") ∷
    (15, codes "counter is spent") ∷
    []

abbrev pub b_texts : List (ℕ × List ℕ)
b_texts =
    (1, codes "evaluation budget is spent") ∷
    (2, codes "statement budget is spent") ∷
    (3, codes "nesting budget is spent") ∷
    []

abbrev pub c_texts : List (ℕ × List ℕ)
c_texts =
    (1, codes "precondition C::N is V") ∷
    (2, codes "postcondition C::N is V") ∷
    (3, codes "no operation is open") ∷
    (4, codes "too many open operations") ∷
    []

abbrev pub u_texts : List (ℕ × List ℕ)
u_texts =
    (1, codes "nothing to undo") ∷
    (2, codes "nothing to redo") ∷
    []

abbrev pub f_texts : List (ℕ × List ℕ)
f_texts =
    (1, codes "no such file") ∷
    (2, codes "file is too long") ∷
    (3, codes "files are open 8 deep") ∷
    []

abbrev pub v_texts : List (ℕ × List ℕ)
v_texts =
    (1, codes "no such view") ∷
    []
