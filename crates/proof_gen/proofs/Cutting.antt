-- Private. No line has the end of a line in it, so the text is cut into its lines.
use Rattle.std.proofs.Common.{◌≡◌, ℕ, zero, suc, ◌+◌, ◌-◌, ◌%◌, ◌^◌, ◌<◌, ◌≤◌, ◌==◌, Bool, true, false, not, ◌&&◌}
use Rattle.std.proofs.Common.{List, [], ◌∷◌, ◌++◌, map, refl, ap, ◌∙◌, append_assoc, decimal, arith}
use Rattle.std.specs.Prelude.{codes, if◌then◌else◌}
use Rattle.std.specs.List.{All, flat_map, list_all, slice_split}
use Rattle.std.proofs.lemmas.Bool.Decides.{nat_tests}
use Rattle.std.proofs.lemmas.Fmt.{decimal_by_steps_wide}
use Rattle.std.proofs.lemmas.List.Folds.{list_all-append}
use Rattle.std.proofs.lemmas.List.Splits.{slice_split_at}
use Rattle.std.proofs.lemmas.List.Sums.{AllPass-from_list_all}
use Rattle.proof_gen.specs.Templates.{number_letter, numbered, letter, filled, each, in_lines}
use Rattle.proof_gen.specs.Templates.{term_a, term_b, term_o, term_x, term_y, term_z, term_l}
use Rattle.proof_gen.specs.Texts.{block_lines, chain_line, proof_lines, proof_text}

-- no end of a line
abbrev free : List ℕ → Bool
free line = list_all (λ b. not (b == 10)) line

both : (a b : Bool) → (a && b) ≡ true → (a ≡ true) × (b ≡ true)
both true b h = (refl, h)
both false b h = (h, cc)

if_free : (c : Bool) (x y : List ℕ) → free x ≡ true → free y ≡ true → free (if c then x else y) ≡ true
if_free true x y hx hy = hx
if_free false x y hx hy = hy

all_append : {A : Type 0} (p : A → Bool) (xs ys : List A) → list_all p xs ≡ true → list_all p ys ≡ true → list_all p (xs ++ ys) ≡ true
all_append p xs ys hx hy = list_all-append p xs ys ∙ rw (hx, hy) refl

all_cons : {A : Type 0} (p : A → Bool) (x : A) (xs : List A) → p x ≡ true → list_all p xs ≡ true → list_all p (x ∷ xs) ≡ true
all_cons p x xs hx hxs = rw (hx, hxs) refl

all_each : {A : Type 0} (p : A → Bool) (of : ℕ → List A) (n : ℕ) → ((i : ℕ) → i ≤ n → list_all p (of i) ≡ true)
    → list_all p (each of n) ≡ true
all_each p of zero h = refl
all_each p of (suc n) h = all_append p (each of n) (of (suc n)) (all_each p of n (λ i le. h i (omega arith))) (h (suc n) (omega arith))

free_flat_map : (f : ℕ → List ℕ) → ((b : ℕ) → not (b == 10) ≡ true → free (f b) ≡ true)
    → (template : List ℕ) → free template ≡ true → free (flat_map f template) ≡ true
free_flat_map f k [] h = refl
free_flat_map f k (b ∷ template) h =
    let parts = both (not (b == 10)) (free template) h in
    all_append (λ x. not (x == 10)) (f b) (flat_map f template) (k b parts.0) (free_flat_map f k template parts.1)

all_map : (f : List ℕ → List ℕ) → ((line : List ℕ) → free line ≡ true → free (f line) ≡ true)
    → (lines : List (List ℕ)) → list_all free lines ≡ true → list_all free (map f lines) ≡ true
all_map f k [] h = refl
all_map f k (line ∷ lines) h =
    let parts = both (free line) (list_all free lines) h in
    all_cons free (f line) (map f lines) (k line parts.0) (all_map f k lines parts.1)

no_digit : (m : ℕ) → ((48 + m) == 10) ≡ false
no_digit m = grind (arith, nat_tests)

free_digit : (m : ℕ) → free ((48 + m) ∷ []) ≡ true
free_digit m = rw (no_digit m) refl

free_decimal : (n : ℕ) → n < 10 ^ 64 → free (decimal n) ≡ true
free_decimal n small =
    decimal_by_steps_wide (λ n ds. free ds ≡ true) (λ m one. free_digit m)
    (λ m ds more h. all_append (λ x. not (x == 10)) ds ((48 + m % 10) ∷ []) h (free_digit (m % 10))) n small

free_byte : (b : ℕ) → not (b == 10) ≡ true → free (b ∷ []) ≡ true
free_byte b h = rw h refl

free_number_letter : (i : ℕ) → i < 10 ^ 64 → (b : ℕ) → not (b == 10) ≡ true → free (number_letter i b) ≡ true
unfolding number_letter
free_number_letter i small b h =
    if_free (b == 73) (decimal i) (if b == 74 then decimal (i - 1) else b ∷ []) (free_decimal i small)
    (if_free (b == 74) (decimal (i - 1)) (b ∷ []) (free_decimal (i - 1) (omega arith)) (free_byte b h))

free_numbered : (i : ℕ) → i < 10 ^ 64 → (template : List ℕ) → free template ≡ true → free (numbered i template) ≡ true
unfolding numbered
free_numbered i small template h = free_flat_map (number_letter i) (free_number_letter i small) template h

free_a : (i : ℕ) → i < 10 ^ 64 → free (term_a i) ≡ true
unfolding term_a
free_a i small = free_numbered i small (codes "(and (= aJ bI) (= bI aI))") refl

free_b : (i : ℕ) → i < 10 ^ 64 → free (term_b i) ≡ true
unfolding term_b
free_b i small = free_numbered i small (codes "(and (= aJ cI) (= cI aI))") refl

free_o : (i : ℕ) → i < 10 ^ 64 → free (term_o i) ≡ true
unfolding term_o
free_o i small = free_numbered i small (codes "(or (and (= aJ bI) (= bI aI)) (and (= aJ cI) (= cI aI)))") refl

free_x : (i : ℕ) → i < 10 ^ 64 → free (term_x i) ≡ true
unfolding term_x
free_x i small = free_numbered i small (codes "(and (= x bI) (= bI y))") refl

free_y : (i : ℕ) → i < 10 ^ 64 → free (term_y i) ≡ true
unfolding term_y
free_y i small = free_numbered i small (codes "(and (= x cI) (= cI y))") refl

free_z : (i : ℕ) → i < 10 ^ 64 → free (term_z i) ≡ true
unfolding term_z
free_z i small = free_numbered i small (codes "(or (and (= x bI) (= bI y)) (and (= x cI) (= cI y)))") refl

free_l : (i : ℕ) → i < 10 ^ 64 → free (term_l i) ≡ true
unfolding term_l
free_l i small = free_numbered i small (codes "(let ((x aJ) (y aI)) (or (and (= x bI) (= bI y)) (and (= x cI) (= cI y))))") refl

free_letter : (i : ℕ) → i < 10 ^ 64 → (b : ℕ) → not (b == 10) ≡ true → free (letter i b) ≡ true
unfolding letter
free_letter i small b h =
    if_free (b == 65) (term_a i) _ (free_a i small)
    (if_free (b == 66) (term_b i) _ (free_b i small)
    (if_free (b == 79) (term_o i) _ (free_o i small)
    (if_free (b == 88) (term_x i) _ (free_x i small)
    (if_free (b == 89) (term_y i) _ (free_y i small)
    (if_free (b == 90) (term_z i) _ (free_z i small)
    (if_free (b == 76) (term_l i) _ (free_l i small)
    (free_number_letter i small b h)))))))

free_filled : (i : ℕ) → i < 10 ^ 64 → (template : List ℕ) → free template ≡ true → free (filled i template) ≡ true
unfolding filled
free_filled i small template h = free_flat_map (letter i) (free_letter i small) template h

all_block : list_all free block_lines ≡ true
unfolding block_lines
all_block = refl

free_chain : (n : ℕ) → n < 10 ^ 64 → free (chain_line n) ≡ true
unfolding chain_line
free_chain n small =
    let test = λ (b : ℕ). not (b == 10) in
    let first = numbered n (codes "(step z1 (cl (= a0 aI)) :rule trans :premises (") in
    let steps = each (λ i. numbered i (codes "qI ")) (n - 1) in
    let last = numbered n (codes "qI))") in
    all_append test first (steps ++ last) (free_numbered n small (codes "(step z1 (cl (= a0 aI)) :rule trans :premises (") refl)
    (all_append test steps last
    (all_each test (λ i. numbered i (codes "qI ")) (n - 1) (λ i le. free_numbered i (omega arith) (codes "qI ") refl))
    (free_numbered n small (codes "qI))") refl))

all_proof : (n : ℕ) → n < 10 ^ 64 → list_all free (proof_lines n) ≡ true
unfolding proof_lines
all_proof n small =
    let goal = numbered n (codes "(assume g (not (= a0 aI)))") in
    let end = codes "(step z2 (cl) :rule resolution :premises (g z1))" ∷ [] in
    all_append free (each (λ i. map (filled i) block_lines) n) (goal ∷ chain_line n ∷ end)
    (all_each free (λ i. map (filled i) block_lines) n (λ i le. all_map (filled i) (free_filled i (omega arith)) block_lines all_block))
    (all_cons free goal (chain_line n ∷ end) (free_numbered n small (codes "(assume g (not (= a0 aI)))") refl)
    (all_cons free (chain_line n) end (free_chain n small) refl))

not_true : (b : Bool) → not b ≡ true → b ≡ false
not_true true h = cc
not_true false h = refl

no_end : (line : List ℕ) → free line ≡ true → All (λ b. (b == 10) ≡ false) line
no_end line h k d within = not_true _ (AllPass-from_list_all (λ b. not (b == 10)) line h k d within)

cut_lines : (lines : List (List ℕ)) → list_all free lines ≡ true → slice_split (λ b. b == 10) (in_lines lines) ≡ lines ++ [] ∷ []
unfolding in_lines
cut_lines [] h = refl
cut_lines (line ∷ lines) h =
    let parts = both (free line) (list_all free lines) h in
    ap (slice_split (λ b. b == 10)) (append_assoc line (10 ∷ []) (in_lines lines))
    ∙ (slice_split_at (λ b. b == 10) line 10 (in_lines lines) (no_end line parts.0) refl
    ∙ ap (λ m. line ∷ m) (cut_lines lines parts.1))

pub proof_is_cut : (n : ℕ) → n ≤ 50000 → slice_split (λ b. b == 10) (proof_text n) ≡ proof_lines n ++ [] ∷ []
unfolding proof_text
proof_is_cut n few = cut_lines (proof_lines n) (all_proof n (omega arith))
