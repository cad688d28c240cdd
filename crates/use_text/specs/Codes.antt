-- The codes of refusals and their texts.
use Rattle.std.specs.Prelude.{ℕ, ◌==◌, if◌then◌else◌, List, [], ◌∷◌, ◌++◌, codes}
use Rattle.std.specs.Fmt.{decimal}
use Rattle.use_text.specs.Texts.{k_texts, l_texts, s_texts, m_texts, n_texts, t_texts, x_texts, b_texts, c_texts, u_texts, f_texts, v_texts}
use Rattle.use_text.specs.declared.code.Code.{Code}
use Rattle.use_text.specs.declared.code.Family.{Family}
use Rattle.use_text.specs.declared.code.Family.TheVariants.{K, L, S, M, N, T, X, B, C, U, F, V}

abbrev pub letter_of : Family → List ℕ
letter_of K = codes "K"
letter_of L = codes "L"
letter_of S = codes "S"
letter_of M = codes "M"
letter_of N = codes "N"
letter_of T = codes "T"
letter_of X = codes "X"
letter_of B = codes "B"
letter_of C = codes "C"
letter_of U = codes "U"
letter_of F = codes "F"
letter_of V = codes "V"

abbrev pub code_of : Family → ℕ → Code
code_of family number = record { family = family; number = number }

-- the letter and the number, as `X12`
abbrev pub code_text : Code → List ℕ
code_text c = letter_of c.family ++ decimal c.number

-- the text of a number among rows, or none
abbrev pub text_among : List (ℕ × List ℕ) → ℕ → List ℕ
text_among [] n = []
text_among (row ∷ rows) n = if row.0 == n then row.1 else text_among rows n

-- the texts of a family
abbrev pub texts_of : Family → List (ℕ × List ℕ)
texts_of K = k_texts
texts_of L = l_texts
texts_of S = s_texts
texts_of M = m_texts
texts_of N = n_texts
texts_of T = t_texts
texts_of X = x_texts
texts_of B = b_texts
texts_of C = c_texts
texts_of U = u_texts
texts_of F = f_texts
texts_of V = v_texts

-- the text of a code, which is empty where there is no such code
unfoldable pub text_of : Code → List ℕ
text_of c = text_among (texts_of c.family) c.number
