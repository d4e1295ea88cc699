-- Public. The two texts of the generator: a problem of n links, which say together that a0 is an, against that a0 is not an; and
-- the proof that refutes it.
use Rattle.std.specs.Prelude.{ℕ, ◌-◌, List, [], ◌∷◌, ◌++◌, codes, map}
use Rattle.proof_gen.specs.Templates.{numbered, filled, each, in_lines}

unfoldable pub heading_lines : List (List ℕ)
heading_lines =
    codes "(set-logic QF_UF)"
    ∷ codes "(declare-sort U 0)"
    ∷ codes "(declare-fun a0 () U)"
    ∷ []

unfoldable pub declaration_lines : List (List ℕ)
declaration_lines =
    codes "(declare-fun aI () U)"
    ∷ codes "(declare-fun bI () U)"
    ∷ codes "(declare-fun cI () U)"
    ∷ []

unfoldable pub assertion_lines : List (List ℕ)
assertion_lines = codes "(assert L)" ∷ []

unfoldable pub problem_lines : ℕ → List (List ℕ)
problem_lines n =
    heading_lines
    ++ (each (λ i. map (numbered i) declaration_lines) n
    ++ (each (λ i. map (filled i) assertion_lines) n
    ++ (numbered n (codes "(assert (not (= a0 aI)))")
    ∷ codes "(check-sat)"
    ∷ [])))

-- The commands of a link: it holds by its let (h), so without it (e); either way its ends are equal (s), so they are (q).
unfoldable pub block_lines : List (List ℕ)
block_lines =
    codes "(assume hI L)"
    ∷ codes "(anchor :step lI :args ((:= (x U) aJ) (:= (y U) aI)))"
    ∷ codes "(step lI.1 (cl (= x aJ)) :rule refl)"
    ∷ codes "(step lI.2 (cl (= y aI)) :rule refl)"
    ∷ codes "(step lI.3 (cl (= (= x bI) (= aJ bI))) :rule cong :premises (lI.1))"
    ∷ codes "(step lI.4 (cl (= (= bI y) (= bI aI))) :rule cong :premises (lI.2))"
    ∷ codes "(step lI.5 (cl (= (= x cI) (= aJ cI))) :rule cong :premises (lI.1))"
    ∷ codes "(step lI.6 (cl (= (= cI y) (= cI aI))) :rule cong :premises (lI.2))"
    ∷ codes "(step lI.7 (cl (= X A)) :rule cong :premises (lI.3 lI.4))"
    ∷ codes "(step lI.8 (cl (= Y B)) :rule cong :premises (lI.5 lI.6))"
    ∷ codes "(step lI.9 (cl (= Z O)) :rule cong :premises (lI.7 lI.8))"
    ∷ codes "(step lI (cl (= L O)) :rule let)"
    ∷ codes "(step eI (cl (not L) O) :rule equiv1 :premises (lI))"
    ∷ codes "(anchor :step sI)"
    ∷ codes "(assume sI.h O)"
    ∷ codes "(anchor :step sI.l)"
    ∷ codes "(assume sI.l.h A)"
    ∷ codes "(step sI.l.1 (cl (= aJ bI)) :rule and :premises (sI.l.h))"
    ∷ codes "(step sI.l.2 (cl (= bI aI)) :rule and :premises (sI.l.h))"
    ∷ codes "(step sI.l.3 (cl (= aJ aI)) :rule trans :premises (sI.l.1 sI.l.2))"
    ∷ codes "(step sI.l (cl (not A) (= aJ aI)) :rule subproof :discharge (sI.l.h))"
    ∷ codes "(anchor :step sI.r)"
    ∷ codes "(assume sI.r.h B)"
    ∷ codes "(step sI.r.1 (cl (= aJ cI)) :rule and :premises (sI.r.h))"
    ∷ codes "(step sI.r.2 (cl (= cI aI)) :rule and :premises (sI.r.h))"
    ∷ codes "(step sI.r.3 (cl (= aJ aI)) :rule trans :premises (sI.r.1 sI.r.2))"
    ∷ codes "(step sI.r (cl (not B) (= aJ aI)) :rule subproof :discharge (sI.r.h))"
    ∷ codes "(step sI.o (cl A B) :rule or :premises (sI.h))"
    ∷ codes "(step sI.q (cl (= aJ aI)) :rule resolution :premises (sI.o sI.l sI.r))"
    ∷ codes "(step sI (cl (not O) (= aJ aI)) :rule subproof :discharge (sI.h))"
    ∷ codes "(step qI (cl (= aJ aI)) :rule resolution :premises (hI eI sI))"
    ∷ []

-- The ends of the whole chain are equal, since those of each link are: its premises are q1 to qn.
unfoldable pub chain_line : ℕ → List ℕ
chain_line n =
    numbered n (codes "(step z1 (cl (= a0 aI)) :rule trans :premises (")
    ++ (each (λ i. numbered i (codes "qI ")) (n - 1)
    ++ numbered n (codes "qI))"))

unfoldable pub proof_lines : ℕ → List (List ℕ)
proof_lines n =
    each (λ i. map (filled i) block_lines) n
    ++ (numbered n (codes "(assume g (not (= a0 aI)))")
    ∷ chain_line n
    ∷ codes "(step z2 (cl) :rule resolution :premises (g z1))"
    ∷ [])

unfoldable pub problem_text : ℕ → List ℕ
problem_text n = in_lines (problem_lines n)

unfoldable pub proof_text : ℕ → List ℕ
proof_text n = in_lines (proof_lines n)
