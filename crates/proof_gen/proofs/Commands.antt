-- Private. How many commands with an index there are.
use Rattle.std.proofs.Common.{◌≡◌, ℕ, zero, suc, ◌+◌, ◌*◌, List, [], ◌∷◌, length, length-append, map, refl, ap, ◌∙◌, arith}
use Rattle.std.specs.Prelude.{cond, codes}
use Rattle.std.specs.List.{count_by}
use Rattle.std.proofs.lemmas.List.Sums.{sum_by-append}
use Rattle.proof_gen.specs.Templates.{number_letter, numbered, letter, filled, each}
use Rattle.proof_gen.specs.Texts.{block_lines, chain_line, proof_lines}
use Rattle.proof_gen.specs.Counting.{begins_command}

of_a_block : (i : ℕ) → count_by begins_command (map (filled i) block_lines) ≡ 27
unfolding block_lines filled letter number_letter begins_command
of_a_block i = refl

of_the_blocks : (n : ℕ) → count_by begins_command (each (λ i. map (filled i) block_lines) n) ≡ 27 * n
of_the_blocks zero = refl
of_the_blocks (suc n) =
    let blocks = each (λ i. map (filled i) block_lines) n in
    let joined = sum_by-append (λ line. cond (begins_command line) 1 0) blocks (map (filled (suc n)) block_lines) in
    omega (arith, joined, of_the_blocks n, of_a_block (suc n))

last_lines : ℕ → List (List ℕ)
last_lines n = numbered n (codes "(assume g (not (= a0 aI)))") ∷ chain_line n ∷ codes "(step z2 (cl) :rule resolution :premises (g z1))" ∷ []

of_the_end : (n : ℕ) → count_by begins_command (last_lines n) ≡ 3
unfolding last_lines numbered number_letter chain_line begins_command
of_the_end n = refl

pub commands_of_proof : (n : ℕ) → count_by begins_command (proof_lines n) ≡ 27 * n + 3
unfolding proof_lines last_lines
commands_of_proof n =
    sum_by-append (λ line. cond (begins_command line) 1 0) (each (λ i. map (filled i) block_lines) n) (last_lines n)
    ∙ (ap (λ k. k + count_by begins_command (last_lines n)) (of_the_blocks n)
    ∙ ap (λ k. 27 * n + k) (of_the_end n))

lines_of_a_block : (i : ℕ) → length (map (filled i) block_lines) ≡ 31
unfolding block_lines
lines_of_a_block i = refl

lines_of_the_blocks : (n : ℕ) → length (each (λ i. map (filled i) block_lines) n) ≡ 31 * n
lines_of_the_blocks zero = refl
lines_of_the_blocks (suc n) =
    let joined = length-append (each (λ i. map (filled i) block_lines) n) (map (filled (suc n)) block_lines) in
    omega (arith, joined, lines_of_the_blocks n, lines_of_a_block (suc n))

pub lines_of_proof : (n : ℕ) → length (proof_lines n) ≡ 31 * n + 3
unfolding proof_lines last_lines
lines_of_proof n =
    length-append (each (λ i. map (filled i) block_lines) n) (last_lines n) ∙ ap (λ k. k + 3) (lines_of_the_blocks n)
