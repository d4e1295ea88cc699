-- Private. How long the texts are at most: a number below 100,000 has at most five digits, and the lines of a link 3,102 bytes.
use Rattle.std.proofs.Common.{◌≡◌, ℕ, zero, suc, ◌+◌, ◌-◌, ◌*◌, ◌^◌, ◌<◌, ◌≤◌, ◌==◌, Bool, true, false}
use Rattle.std.proofs.Common.{List, [], ◌∷◌, ◌++◌, length, length-append, map, refl, ap, sym, ◌∙◌, decimal, arith}
use Rattle.std.specs.Prelude.{codes, if◌then◌else◌}
use Rattle.std.specs.List.{flat_map}
use Rattle.std.proofs.lemmas.Fmt.{length-decimal-le_wide}
use Rattle.proof_gen.specs.Templates.{number_letter, numbered, letter, filled, each, in_lines}
use Rattle.proof_gen.specs.Templates.{term_a, term_b, term_o, term_x, term_y, term_z, term_l}
use Rattle.proof_gen.specs.Texts.{heading_lines, declaration_lines, assertion_lines, block_lines, chain_line, problem_lines, proof_lines, problem_text, proof_text}

-- the sum of numbers of items
abbrev total : {X : Type 0} → (X → ℕ) → List X → ℕ
total w [] = 0
total w (x ∷ xs) = w x + total w xs

total_append : {X : Type 0} (w : X → ℕ) (xs ys : List X) → total w (xs ++ ys) ≡ total w xs + total w ys
total_append w [] ys = omega arith
total_append w (x ∷ xs) ys = omega (arith, total_append w xs ys)

total_map : {X Y : Type 0} (f : X → Y) (v : Y → ℕ) (w : X → ℕ) → ((x : X) → v (f x) ≤ w x) → (xs : List X) → total v (map f xs) ≤ total w xs
total_map f v w h [] = omega arith
total_map f v w h (x ∷ xs) = omega (arith, h x, total_map f v w h xs)

length_flat_map : {X Y : Type 0} (f : X → List Y) (w : X → ℕ) → ((x : X) → length (f x) ≤ w x) → (xs : List X) → length (flat_map f xs) ≤ total w xs
length_flat_map f w h [] = omega arith
length_flat_map f w h (x ∷ xs) = omega (arith, length-append (f x) (flat_map f xs), h x, length_flat_map f w h xs)

total_each : {X : Type 0} (w : X → ℕ) (of : ℕ → List X) (k n : ℕ) → ((i : ℕ) → i ≤ n → total w (of i) ≤ k) → total w (each of n) ≤ n * k
total_each w of k zero h = omega arith
total_each w of k (suc n) h =
    let before = total_each w of k n (λ i le. h i (omega (arith, le))) in
    let last = h (suc n) (omega arith) in
    omega (arith, total_append w (each of n) (of (suc n)), before, last)

length_each : {X : Type 0} (of : ℕ → List X) (k n : ℕ) → ((i : ℕ) → i ≤ n → length (of i) ≤ k) → length (each of n) ≤ n * k
length_each of k zero h = omega arith
length_each of k (suc n) h =
    let before = length_each of k n (λ i le. h i (omega (arith, le))) in
    let last = h (suc n) (omega arith) in
    omega (arith, length-append (each of n) (of (suc n)), before, last)

-- how many bytes a byte of a template stands for at most
abbrev number_weight : ℕ → ℕ
number_weight b = if b == 73 then 5 else (if b == 74 then 5 else 1)

abbrev weight : ℕ → ℕ
weight b =
    if b == 65 then 41
    else (if b == 66 then 41
    else (if b == 79 then 88
    else (if b == 88 then 31
    else (if b == 89 then 31
    else (if b == 90 then 68
    else (if b == 76 then 98
    else number_weight b))))))

-- and a line of a template, with its end
abbrev line_weight : List ℕ → ℕ
line_weight line = total weight line + 1

abbrev numbered_weight : List ℕ → ℕ
numbered_weight line = total number_weight line + 1

-- a line of a text, with its end
abbrev size : List ℕ → ℕ
size line = length line + 1

if_length : (c : Bool) (x y : List ℕ) (m n : ℕ) → length x ≤ m → length y ≤ n → length (if c then x else y) ≤ (if c then m else n)
if_length true x y m n p q = p
if_length false x y m n p q = q

of_decimal : (i : ℕ) → i ≤ 50000 → length (decimal i) ≤ 5
of_decimal i le = length-decimal-le_wide 5 i (omega arith) (omega (arith, le)) (omega (arith, le))

of_number_letter : (i : ℕ) → i ≤ 50000 → (b : ℕ) → length (number_letter i b) ≤ number_weight b
unfolding number_letter
of_number_letter i le b =
    if_length (b == 73) (decimal i) (if b == 74 then decimal (i - 1) else b ∷ []) 5 (if b == 74 then 5 else 1) (of_decimal i le)
    (if_length (b == 74) (decimal (i - 1)) (b ∷ []) 5 1 (of_decimal (i - 1) (omega (arith, le))) (omega arith))

of_numbered : (i : ℕ) → i ≤ 50000 → (template : List ℕ) → length (numbered i template) ≤ total number_weight template
unfolding numbered
of_numbered i le template = length_flat_map (number_letter i) number_weight (of_number_letter i le) template

of_a : (i : ℕ) → i ≤ 50000 → length (term_a i) ≤ 41
unfolding term_a
of_a i le = of_numbered i le (codes "(and (= aJ bI) (= bI aI))")

of_b : (i : ℕ) → i ≤ 50000 → length (term_b i) ≤ 41
unfolding term_b
of_b i le = of_numbered i le (codes "(and (= aJ cI) (= cI aI))")

of_o : (i : ℕ) → i ≤ 50000 → length (term_o i) ≤ 88
unfolding term_o
of_o i le = of_numbered i le (codes "(or (and (= aJ bI) (= bI aI)) (and (= aJ cI) (= cI aI)))")

of_x : (i : ℕ) → i ≤ 50000 → length (term_x i) ≤ 31
unfolding term_x
of_x i le = of_numbered i le (codes "(and (= x bI) (= bI y))")

of_y : (i : ℕ) → i ≤ 50000 → length (term_y i) ≤ 31
unfolding term_y
of_y i le = of_numbered i le (codes "(and (= x cI) (= cI y))")

of_z : (i : ℕ) → i ≤ 50000 → length (term_z i) ≤ 68
unfolding term_z
of_z i le = of_numbered i le (codes "(or (and (= x bI) (= bI y)) (and (= x cI) (= cI y)))")

of_l : (i : ℕ) → i ≤ 50000 → length (term_l i) ≤ 98
unfolding term_l
of_l i le = of_numbered i le (codes "(let ((x aJ) (y aI)) (or (and (= x bI) (= bI y)) (and (= x cI) (= cI y))))")

of_letter : (i : ℕ) → i ≤ 50000 → (b : ℕ) → length (letter i b) ≤ weight b
unfolding letter
of_letter i le b =
    if_length (b == 65) _ _ _ _ (of_a i le) (if_length (b == 66) _ _ _ _ (of_b i le) (if_length (b == 79) _ _ _ _ (of_o i le)
    (if_length (b == 88) _ _ _ _ (of_x i le) (if_length (b == 89) _ _ _ _ (of_y i le) (if_length (b == 90) _ _ _ _ (of_z i le)
    (if_length (b == 76) _ _ _ _ (of_l i le) (of_number_letter i le b)))))))

of_filled : (i : ℕ) → i ≤ 50000 → (template : List ℕ) → length (filled i template) ≤ total weight template
unfolding filled
of_filled i le template = length_flat_map (letter i) weight (of_letter i le) template

of_lines : (lines : List (List ℕ)) → length (in_lines lines) ≤ total size lines
unfolding in_lines
of_lines lines = length_flat_map (λ line. line ++ 10 ∷ []) size (λ line. omega (arith, length-append line (10 ∷ []))) lines

-- the lines of all links
of_links : (lines : List (List ℕ)) (k n : ℕ) → total line_weight lines ≤ k → n ≤ 50000 → total size (each (λ i. map (filled i) lines) n) ≤ n * k
of_links lines k n less le =
    total_each size (λ i. map (filled i) lines) k n
    (λ i within. let one = total_map (filled i) size line_weight (λ line. omega (arith, of_filled i (omega (arith, within, le)) line)) lines in omega (arith, one, less))

of_numbered_links : (lines : List (List ℕ)) (k n : ℕ) → total numbered_weight lines ≤ k → n ≤ 50000 → total size (each (λ i. map (numbered i) lines) n) ≤ n * k
of_numbered_links lines k n less le =
    total_each size (λ i. map (numbered i) lines) k n
    (λ i within. let one = total_map (numbered i) size numbered_weight (λ line. omega (arith, of_numbered i (omega (arith, within, le)) line)) lines in omega (arith, one, less))

block_weight : total line_weight block_lines ≤ 3200
unfolding block_lines
block_weight = omega arith

declaration_weight : total numbered_weight declaration_lines ≤ 100
unfolding declaration_lines
declaration_weight = omega arith

assertion_weight : total line_weight assertion_lines ≤ 120
unfolding assertion_lines
assertion_weight = omega arith

heading_size : total size heading_lines ≤ 100
unfolding heading_lines
heading_size = omega arith

-- the last lines of the proof
of_chain : (n : ℕ) → n ≤ 50000 → length (chain_line n) ≤ 10 * n + 100
unfolding chain_line
of_chain n le =
    let first = of_numbered n le (codes "(step z1 (cl (= a0 aI)) :rule trans :premises (") in
    let last = of_numbered n le (codes "qI))") in
    let between = length_each (λ i. numbered i (codes "qI ")) 10 (n - 1) (λ i within. let one = of_numbered i (omega (arith, within, le)) (codes "qI ") in omega (arith, one)) in
    let joined = length-append (each (λ i. numbered i (codes "qI ")) (n - 1)) (numbered n (codes "qI))")) in
    let whole = length-append (numbered n (codes "(step z1 (cl (= a0 aI)) :rule trans :premises (")) (each (λ i. numbered i (codes "qI ")) (n - 1) ++ numbered n (codes "qI))")) in
    omega (arith, first, last, between, joined, whole)

abbrev last_lines : ℕ → List (List ℕ)
last_lines n = numbered n (codes "(assume g (not (= a0 aI)))") ∷ chain_line n ∷ codes "(step z2 (cl) :rule resolution :premises (g z1))" ∷ []

of_last : (n : ℕ) → n ≤ 50000 → total size (last_lines n) ≤ 10 * n + 300
of_last n le =
    let goal = of_numbered n le (codes "(assume g (not (= a0 aI)))") in
    let chain = of_chain n le in
    omega (arith, goal, chain)

pub proof_is_short : (n : ℕ) → n ≤ 50000 → length (proof_text n) ≤ 268435456
unfolding proof_text proof_lines
proof_is_short n le =
    let whole = of_lines (each (λ i. map (filled i) block_lines) n ++ last_lines n) in
    let joined = total_append size (each (λ i. map (filled i) block_lines) n) (last_lines n) in
    let links = of_links block_lines 3200 n block_weight le in
    let last = of_last n le in
    omega (arith, whole, joined, links, last, le)

abbrev end_lines : ℕ → List (List ℕ)
end_lines n = numbered n (codes "(assert (not (= a0 aI)))") ∷ codes "(check-sat)" ∷ []

of_end : (n : ℕ) → n ≤ 50000 → total size (end_lines n) ≤ 100
of_end n le = let goal = of_numbered n le (codes "(assert (not (= a0 aI)))") in omega (arith, goal)

pub problem_is_short : (n : ℕ) → n ≤ 50000 → length (problem_text n) ≤ 268435456
unfolding problem_text problem_lines
problem_is_short n le =
    let declared = each (λ i. map (numbered i) declaration_lines) n in
    let asserted = each (λ i. map (filled i) assertion_lines) n in
    let whole = of_lines (heading_lines ++ (declared ++ (asserted ++ end_lines n))) in
    let first = total_append size heading_lines (declared ++ (asserted ++ end_lines n)) in
    let second = total_append size declared (asserted ++ end_lines n) in
    let third = total_append size asserted (end_lines n) in
    let a = of_numbered_links declaration_lines 100 n declaration_weight le in
    let b = of_links assertion_lines 120 n assertion_weight le in
    let last = of_end n le in
    omega (arith, whole, first, second, third, a, b, last, heading_size, le)
