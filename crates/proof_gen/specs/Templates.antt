-- Public. Templates: texts in which letters stand for a number and for the terms of a link.
--
-- The link of number i goes from a(i - 1) to a(i), by b(i) or by c(i).
use Rattle.std.specs.Prelude.{ℕ, ◌-◌, ◌==◌, suc, zero, List, [], ◌∷◌, ◌++◌, codes, decimal, if◌then◌else◌}
use Rattle.std.specs.List.{flat_map}

-- `I` stands for the number in base ten and `J` for the number before it.
unfoldable pub number_letter : ℕ → ℕ → List ℕ
number_letter i letter =
    if letter == 73 then decimal i
    else (if letter == 74 then decimal (i - 1)
    else letter ∷ [])

unfoldable pub numbered : ℕ → List ℕ → List ℕ
numbered i template = flat_map (number_letter i) template

-- `A`: by b from one end to the other. `B`: by c. `O`: by one of the two.
unfoldable pub term_a : ℕ → List ℕ
term_a i = numbered i (codes "(and (= aJ bI) (= bI aI))")

unfoldable pub term_b : ℕ → List ℕ
term_b i = numbered i (codes "(and (= aJ cI) (= cI aI))")

unfoldable pub term_o : ℕ → List ℕ
term_o i = numbered i (codes "(or (and (= aJ bI) (= bI aI)) (and (= aJ cI) (= cI aI)))")

-- `X`, `Y`, `Z`: the same from the variable x to the variable y.
unfoldable pub term_x : ℕ → List ℕ
term_x i = numbered i (codes "(and (= x bI) (= bI y))")

unfoldable pub term_y : ℕ → List ℕ
term_y i = numbered i (codes "(and (= x cI) (= cI y))")

unfoldable pub term_z : ℕ → List ℕ
term_z i = numbered i (codes "(or (and (= x bI) (= bI y)) (and (= x cI) (= cI y)))")

-- `L`: the last of these, where x is the one end and y the other.
unfoldable pub term_l : ℕ → List ℕ
term_l i = numbered i (codes "(let ((x aJ) (y aI)) (or (and (= x bI) (= bI y)) (and (= x cI) (= cI y))))")

-- what a byte of a template stands for: A is 65, B 66, L 76, O 79, X 88, Y 89, Z 90
unfoldable pub letter : ℕ → ℕ → List ℕ
letter i byte =
    if byte == 65 then term_a i
    else (if byte == 66 then term_b i
    else (if byte == 79 then term_o i
    else (if byte == 88 then term_x i
    else (if byte == 89 then term_y i
    else (if byte == 90 then term_z i
    else (if byte == 76 then term_l i
    else number_letter i byte))))))

unfoldable pub filled : ℕ → List ℕ → List ℕ
filled i template = flat_map (letter i) template

-- what there is for each number from 1 to n, in order
abbrev pub each : {A : Type 0} → (ℕ → List A) → ℕ → List A
each of zero = []
each of (suc n) = each of n ++ of (suc n)

-- each line with its end
unfoldable pub in_lines : List (List ℕ) → List ℕ
in_lines lines = flat_map (λ line. line ++ 10 ∷ []) lines
