-- Literals over references, and the terms that they stand for.
use Rattle.std.proofs.Common.{◌≡◌, ◌≢◌, ◌↔◌, ℕ, zero, suc, ◌<◌, ◌%◌, Bool, IsTrue, true, false, not, nat_eq, List, [], ◌∷◌, length, map}
use Rattle.std.proofs.Common.{vec_len, refl, sym, ◌∙◌, ap, arith, All}
use Rattle.std.specs.Borrow.{Bor}
use Rattle.std.specs.Global.{Vec}
use Rattle.std.specs.List.{AllZip}
use Rattle.std.proofs.lemmas.Bool.{eqb-true, eq-eqb}
use Rattle.std.proofs.lemmas.Bool.Decides.{nat_tests}
use Rattle.std.proofs.lemmas.List.Elements.{All-nil, All-cons, All-head, All-tail}
use Rattle.pair_pool.specs.Views.{Knows, IsUnchanged}
use Rattle.pair_pool.specs.Trees.{leaf}
use Rattle.sym_table.specs.Leaf.{operator}
use Rattle.sym_table.specs.Table.{Table, IsLeaf}
use Rattle.term_model.specs.declared.symbols.Op.{Op}
use Rattle.term_model.specs.Terms.{Term, operation, no_terms, not_of}
use Rattle.term_pool.specs.Nots.{negated, Strips, IsStripped}
use Rattle.term_pool.specs.Views.{TermsView, RefersTo, KeepsTerms}
use Rattle.term_pool.proofs.Keeping.{same_terms}
use Rattle.rule_model.specs.declared.literal.Literal.{Literal}
use Rattle.rule_model.specs.declared.literal.Literal.TheVariants.{Plain, Always, Never}
use Rattle.rule_model.specs.Literals.{negation_of}
use Rattle.rule_model.specs.Renaming.{IsLiteralImage, AreLiteralImages, AreAllImages}
use Rattle.rule_model.specs.Resolution.{as_literal, as_clause}
use Rattle.rule_model.proofs.Consequence.{negation_of-negation_of}
use Rattle.term_model.proofs.Zips.{zip_length}
use Rattle.term_parts.specs.Judging.{ReferToClauses}
use Rattle.rule_model.proofs.Resolution.{bare_is_bare, atom_is_plain}
use Rattle.rules_resolution.specs.Literal.{Lit}
use Rattle.clause_chain.specs.Chaining.{clauses_of}
use Rattle.rules_resolution.specs.TermLiterals.{IsLiteralOf, AreLiteralsOf, AreClausesOf, turned}

turned_more : {A : Type 0} (b : Bool) (l : Literal A) → negation_of (turned b l) ≡ turned (not b) l
turned_more true l = negation_of-negation_of l
turned_more false l = refl

other_parity : (n : ℕ) → nat_eq (suc n % 2) 1 ≡ not (nat_eq (n % 2) 1)
other_parity n = grind (arith, nat_tests)

-- so many negations turn a literal round where their number is odd
negated_literal : (n : ℕ) (u : Term) → as_literal (negated n u) ≡ turned (nat_eq (n % 2) 1) (as_literal u)
negated_literal zero u = refl
negated_literal (suc n) u =
    ap negation_of (negated_literal n u)
    ∙ (turned_more (nat_eq (n % 2) 1) (as_literal u) ∙ ap (λ (b : Bool). turned b (as_literal u)) (sym (other_parity n)))

odd_is : (n : ℕ) (odd : Bool) → (IsTrue odd ↔ (n % 2 ≡ 1)) → odd ≡ nat_eq (n % 2) 1
odd_is n true h = sym (eq-eqb (n % 2) 1 (h.0 refl))
odd_is n false h = go (nat_eq (n % 2) 1) refl
  where
    go : (b : Bool) → nat_eq (n % 2) 1 ≡ b → false ≡ b
    go true e = h.1 (eqb-true (n % 2) 1 e)
    go false e = refl

stripped_literal : (t u : Term) (odd : Bool) → Strips t u odd → as_literal t ≡ turned odd (as_literal u)
stripped_literal t u odd strips =
    ap as_literal strips.whole ∙ (negated_literal strips.nots u ∙ ap (λ (b : Bool). turned b (as_literal u)) (sym (odd_is strips.nots odd strips.parity)))

-- by what is stripped of a term, its literal
pub literal_from_bare : (s : Table) (v w : TermsView) (r bare : ℕ) (odd : Bool) (l : Lit) → KeepsTerms v w → IsUnchanged v.pass w.pass
    → ((t : Term) → RefersTo s v r t → IsStripped s w t bare odd)
    → ((t : Term) → RefersTo s w bare t → ((u : Term) → t ≢ not_of u) → IsLiteralImage (RefersTo s w) l (turned odd (as_literal t)))
    → IsLiteralOf s v r l
literal_from_bare s v w r bare odd l keeps same strips image t refers =
    let stripped = strips t refers in
    let here = image stripped.inner stripped.refers stripped.strips.bare in
    rw (← same_terms v w keeps same, stripped_literal t stripped.inner odd stripped.strips) here

-- a term that is no negation and no constant
pub plain_image : (R : ℕ → Term → Type 0) (k : ℕ) (odd : Bool) (t : Term) → R k t → ((u : Term) → t ≢ not_of u) → t ≢ operation Op.True no_terms → t ≢ operation Op.False no_terms → IsLiteralImage R (Plain k odd) (turned odd (as_literal t))
plain_image R k odd t refers bare no_true no_false =
    rw (bare_is_bare t bare ∙ atom_is_plain t no_true no_false) (go odd)
  where
    go : (b : Bool) → IsLiteralImage R (Plain k b) (turned b (Plain t false))
    go true = (refers, refl)
    go false = (refers, refl)

-- the constants
pub true_image : (R : ℕ → Term → Type 0) (odd : Bool) (t : Term) → t ≡ operation Op.True no_terms → IsLiteralImage R (turned odd Always) (turned odd (as_literal t))
true_image R odd t e = rw e (go odd)
  where
    go : (b : Bool) → IsLiteralImage R (turned b Always) (turned b Always)
    go true = tt
    go false = tt

pub false_image : (R : ℕ → Term → Type 0) (odd : Bool) (t : Term) → t ≡ operation Op.False no_terms → IsLiteralImage R (turned (not odd) Always) (turned odd (as_literal t))
false_image R odd t e = rw e (go odd)
  where
    go : (b : Bool) → IsLiteralImage R (turned (not b) Always) (turned b Never)
    go true = tt
    go false = tt

-- the leaf of an operator stands for the operator without arguments
pub operator_refers : (s : Table) (v : TermsView) (r k : ℕ) (op : Op) → Knows v.pass r (leaf k) → IsLeaf s k (operator op) → RefersTo s v r (operation op no_terms)
operator_refers s v r k op known is = record { tree = leaf k; known = known; stands = is }

-- literals are the images of the terms that the references stand for
pub are_images : (s : Table) (v : TermsView) (references : List ℕ) (literals : List Lit) (ts : List Term) → AreLiteralsOf s v references literals → AllZip (RefersTo s v) references ts → AreLiteralImages (RefersTo s v) literals (as_clause ts)
are_images s v [] [] [] z refer = tt
are_images s v [] [] (t ∷ ts) z refer = absurd refer
are_images s v [] (l ∷ ls) ts z refer = absurd z
are_images s v (r ∷ rs) [] ts z refer = absurd z
are_images s v (r ∷ rs) (l ∷ ls) [] z refer = absurd refer
are_images s v (r ∷ rs) (l ∷ ls) (t ∷ ts) z refer = (z.0 t refer.0, are_images s v rs ls ts z.1 refer.1)

pub are_all_images : (s : Table) (v : TermsView) (premises : List (Bor (List ℕ))) (clauses : List (Vec Lit)) (ps : List (List Term))
    → AreClausesOf s v premises clauses → ReferToClauses s v premises ps → AreAllImages (RefersTo s v) (clauses_of clauses) (map as_clause ps)
are_all_images s v [] [] [] z refer = tt
are_all_images s v [] [] (p ∷ ps) z refer = absurd refer
are_all_images s v [] (c ∷ cs) ps z refer = absurd z
are_all_images s v (r ∷ rs) [] ps z refer = absurd z
are_all_images s v (r ∷ rs) (c ∷ cs) [] z refer = absurd refer
are_all_images s v (r ∷ rs) (c ∷ cs) (p ∷ ps) z refer = (are_images s v r.now c.items p z.0 refer.0, are_all_images s v rs cs ps z.1 refer.1)

-- no list is longer than the clause that is read into it
pub short_clauses : (s : Table) (v : TermsView) (n : ℕ) (premises : List (Bor (List ℕ))) (clauses : List (Vec Lit))
    → All (λ (p : Bor (List ℕ)). length p.now < n) premises → AreClausesOf s v premises clauses
    → All (λ (literals : Vec Lit). vec_len literals < n) clauses
short_clauses s v n [] [] short z = All-nil (λ (literals : Vec Lit). vec_len literals < n)
short_clauses s v n [] (c ∷ cs) short z = absurd z
short_clauses s v n (r ∷ rs) [] short z = absurd z
short_clauses s v n (r ∷ rs) (c ∷ cs) short z =
    let same = zip_length (IsLiteralOf s v) r.now c.items z.0 in
    let first = All-head (λ (p : Bor (List ℕ)). length p.now < n) r rs short in
    All-cons (λ (literals : Vec Lit). vec_len literals < n) c cs (omega (arith, same, first))
    (short_clauses s v n rs cs (All-tail (λ (p : Bor (List ℕ)). length p.now < n) r rs short) z.1)
