-- Private. What is written part by part is the whole text.
use Rattle.std.proofs.Common.{◌≡◌, ℕ, ◌-◌, List, [], ◌∷◌, ◌++◌, map, ap, sym, ◌∙◌, append_assoc}
use Rattle.std.specs.Prelude.{codes}
use Rattle.proof_gen.specs.Templates.{numbered, filled, each, in_lines}
use Rattle.proof_gen.specs.Texts.{heading_lines, declaration_lines, assertion_lines, block_lines, chain_line}
use Rattle.proof_gen.specs.Texts.{problem_lines, proof_lines, problem_text, proof_text}
use Rattle.proof_gen.proofs.Filling.{numbered_lines, filled_lines, numbered_line, each_in_lines, joined_lines}

-- the last two lines of a problem
problem_end : (n : ℕ) → in_lines (numbered n (codes "(assert (not (= a0 aI)))") ∷ codes "(check-sat)" ∷ [])
    ≡ numbered n (codes "(assert (not (= a0 aI)))" ++ 10 ∷ []) ++ (codes "(check-sat)" ++ 10 ∷ [])
unfolding in_lines
problem_end n = ap (λ l. l ++ (codes "(check-sat)" ++ 10 ∷ [])) (sym (numbered_line n (codes "(assert (not (= a0 aI)))")))

pub problem_is : (n : ℕ) →
    (((in_lines heading_lines
    ++ each (λ i. numbered i (in_lines declaration_lines)) n)
    ++ each (λ i. filled i (in_lines assertion_lines)) n)
    ++ numbered n (codes "(assert (not (= a0 aI)))" ++ 10 ∷ []))
    ++ (codes "(check-sat)" ++ 10 ∷ [])
    ≡ problem_text n
unfolding problem_text problem_lines
problem_is n =
    let declarations = λ (i : ℕ). map (numbered i) declaration_lines in
    let assertions = λ (i : ℕ). map (filled i) assertion_lines in
    let last = numbered n (codes "(assert (not (= a0 aI)))") ∷ codes "(check-sat)" ∷ [] in
    sym (joined_lines heading_lines (each declarations n ++ (each assertions n ++ last))
    ∙ ap (λ l. in_lines heading_lines ++ l) (joined_lines (each declarations n) (each assertions n ++ last)
    ∙ (ap (λ l. in_lines (each declarations n) ++ l) (joined_lines (each assertions n) last)
    ∙ (ap (λ l. l ++ (in_lines (each assertions n) ++ in_lines last))
    (each_in_lines declarations (λ i. numbered i (in_lines declaration_lines)) (λ i. numbered_lines i declaration_lines) n)
    ∙ ap (λ l. each (λ i. numbered i (in_lines declaration_lines)) n ++ (l ++ in_lines last))
    (each_in_lines assertions (λ i. filled i (in_lines assertion_lines)) (λ i. filled_lines i assertion_lines) n))))
    ∙ (ap (λ l. in_lines heading_lines ++ (each (λ i. numbered i (in_lines declaration_lines)) n
    ++ (each (λ i. filled i (in_lines assertion_lines)) n ++ l))) (problem_end n)
    ∙ simp (← append_assoc)))

-- The text after each part, from the first to the last.
pub problem_by_parts : (n : ℕ) {heading declarations assertions t0 t1 t2 t3 t4 t5 : List ℕ}
    → heading ≡ in_lines heading_lines → declarations ≡ in_lines declaration_lines → assertions ≡ in_lines assertion_lines
    → t0 ≡ [] → t1 ≡ t0 ++ heading
    → t2 ≡ t1 ++ each (λ i. numbered i declarations) n
    → t3 ≡ t2 ++ each (λ i. filled i assertions) n
    → t4 ≡ t3 ++ numbered n (codes "(assert (not (= a0 aI)))" ++ 10 ∷ [])
    → t5 ≡ t4 ++ (codes "(check-sat)" ++ 10 ∷ [])
    → t5 ≡ problem_text n
problem_by_parts n h d a e0 e1 e2 e3 e4 e5 = rw (e5, e4, e3, e2, e1, e0, h, d, a) (problem_is n)

-- the last three lines of a proof
proof_end : (n : ℕ) → in_lines (numbered n (codes "(assume g (not (= a0 aI)))") ∷ chain_line n
    ∷ codes "(step z2 (cl) :rule resolution :premises (g z1))" ∷ [])
    ≡ numbered n (codes "(assume g (not (= a0 aI)))" ++ 10 ∷ [])
    ++ (numbered n (codes "(step z1 (cl (= a0 aI)) :rule trans :premises (")
    ++ (each (λ i. numbered i (codes "qI ")) (n - 1)
    ++ (numbered n (codes "qI))" ++ 10 ∷ [])
    ++ (codes "(step z2 (cl) :rule resolution :premises (g z1))" ++ 10 ∷ []))))
unfolding in_lines chain_line
proof_end n = rw (numbered_line n (codes "(assume g (not (= a0 aI)))"), numbered_line n (codes "qI))")) (simp append_assoc)

pub proof_is : (n : ℕ) →
    (((((each (λ i. filled i (in_lines block_lines)) n
    ++ numbered n (codes "(assume g (not (= a0 aI)))" ++ 10 ∷ []))
    ++ numbered n (codes "(step z1 (cl (= a0 aI)) :rule trans :premises ("))
    ++ each (λ i. numbered i (codes "qI ")) (n - 1))
    ++ numbered n (codes "qI))" ++ 10 ∷ []))
    ++ (codes "(step z2 (cl) :rule resolution :premises (g z1))" ++ 10 ∷ []))
    ≡ proof_text n
unfolding proof_text proof_lines
proof_is n =
    let blocks = λ (i : ℕ). map (filled i) block_lines in
    let last = numbered n (codes "(assume g (not (= a0 aI)))") ∷ chain_line n ∷ codes "(step z2 (cl) :rule resolution :premises (g z1))" ∷ [] in
    sym (joined_lines (each blocks n) last
    ∙ (ap (λ l. l ++ in_lines last) (each_in_lines blocks (λ i. filled i (in_lines block_lines)) (λ i. filled_lines i block_lines) n)
    ∙ (ap (λ l. each (λ i. filled i (in_lines block_lines)) n ++ l) (proof_end n)
    ∙ simp (← append_assoc))))

pub proof_by_parts : (n : ℕ) {block t0 t1 t2 t3 t4 t5 t6 : List ℕ}
    → block ≡ in_lines block_lines
    → t0 ≡ [] → t1 ≡ t0 ++ each (λ i. filled i block) n
    → t2 ≡ t1 ++ numbered n (codes "(assume g (not (= a0 aI)))" ++ 10 ∷ [])
    → t3 ≡ t2 ++ numbered n (codes "(step z1 (cl (= a0 aI)) :rule trans :premises (")
    → t4 ≡ t3 ++ each (λ i. numbered i (codes "qI ")) (n - 1)
    → t5 ≡ t4 ++ numbered n (codes "qI))" ++ 10 ∷ [])
    → t6 ≡ t5 ++ (codes "(step z2 (cl) :rule resolution :premises (g z1))" ++ 10 ∷ [])
    → t6 ≡ proof_text n
proof_by_parts n b e0 e1 e2 e3 e4 e5 e6 = rw (e6, e5, e4, e3, e2, e1, e0, b) (proof_is n)
