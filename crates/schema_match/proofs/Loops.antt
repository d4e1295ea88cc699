-- The parts are read one after the other.
use Rattle.std.proofs.Common.{◌≡◌, ◌≢◌, ◌↔◌, ℕ, ◌<◌, ◌+◌, List, [], ◌∷◌, ◌++◌, length, reverse, drop, get_or, Bool, true, false, IsTrue, None, nat_eq, refl, sym, ◌∙◌, ap, subst, add-one, drop-cons}
use Rattle.std.proofs.lemmas.Bool.{eqb-true, eq-eqb}
use Rattle.std.proofs.lemmas.List.{reverse-reverse, nil_from_length}
use Rattle.sym_table.specs.Table.{Table}
use Rattle.term_model.specs.Terms.{Term, numeral}
use Rattle.term_pool.specs.Views.{TermsView, IsTerm, ReferToAll}
use Rattle.rule_model.specs.declared.letter.Letter.{Letter}
use Rattle.rule_model.specs.Schemas.{Pattern}
use Rattle.schema_match.specs.declared.letters.Letters.{Letters}
use Rattle.schema_match.specs.declared.part.Part.{Part}
use Rattle.schema_match.specs.Stack.{StackOf}
use Rattle.schema_match.specs.Letters.{slot, IsSettledAt}
use Rattle.schema_match.specs.Matching.{parts_of, Fits, Matches}
use Rattle.schema_match.specs.Reads.{Reads, Left}
use Rattle.schema_match.proofs.ReferLemmas.{stack_top}
use Rattle.schema_match.proofs.Shapes.{read_patterns, filled_patterns}

abbrev no_letters : Letters
no_letters = record { a = None; b = None; c = None; d = None }

module _ (s : Table) (v : TermsView) (parts : List Part) (ts : List Term) where
  none_settled : (f : Letter → Term) (l : Letter) → IsSettledAt s v (slot no_letters l) (f l)
  none_settled f Letter.A = tt
  none_settled f Letter.B = tt
  none_settled f Letter.C = tt
  none_settled f Letter.D = tt

  -- nothing is read
  pub left_whole : (letters : Letters) (stack : List ℕ) → letters ≡ no_letters → StackOf s v stack ts → Left s v parts ts parts letters stack
  left_whole letters stack e refer =
      rw e
      (let left : Left s v parts ts parts no_letters stack = record {
        terms = ts;
        refer = refer;
        example = λ l. numeral 0;
        agrees = none_settled (λ l. numeral 0);
        reads = λ f. (λ w. (none_settled f, w), λ (agrees, w). w);
      } in
      left)

  -- a part is left
  pub left_next : (letters : Letters) (stack : List ℕ) (i : ℕ) (d : Part) → i < length parts → Left s v parts ts (drop i parts) letters stack → Left s v parts ts (get_or parts i d ∷ drop (i + 1) parts) letters stack
  left_next letters stack i d below left =
      subst (λ qs. Left s v parts ts qs letters stack) (rw (add-one) (drop-cons parts i d below)) left

  -- the top of the stack is a term
  pub top_is_term : (rest : List Part) (letters : Letters) (items : List ℕ) (r : ℕ) → Left s v parts ts rest letters (items ++ r ∷ []) → IsTerm s v r
  top_is_term rest letters items r left =
      let on_top = stack_top s v items r left.terms left.refer in
      record { means = on_top.top; refers = on_top.top_refers }

  -- there is no term for the next part
  pub left_none : (p : Part) (rest : List Part) (letters : Letters) → Left s v parts ts (p ∷ rest) letters [] → (f : Letter → Term) → ¬ Reads f parts ts
  left_none p rest letters left f w = go left.terms left.refer ((left.reads f).0 w).1
    where
      go : (us : List Term) → StackOf s v [] us → Reads f (p ∷ rest) us → ⊥
      go [] h k = k
      go (t ∷ us) h k = h

  -- all parts are read, and no term is left
  nothing_left : (letters : Letters) (stack : List ℕ) → (left : Left s v parts ts [] letters stack) → stack ≡ [] → (f : Letter → Term) → Reads f [] left.terms
  nothing_left letters stack left e f = go left.terms (rw e at left.refer)
    where
      go : (us : List Term) → StackOf s v [] us → Reads f [] us
      go [] h = tt
      go (t ∷ us) h = absurd h

  -- some term is left
  some_left : (letters : Letters) (stack : List ℕ) → Left s v parts ts [] letters stack → stack ≢ [] → (f : Letter → Term) → ¬ Reads f parts ts
  some_left letters stack left some f w = some (none_left left.terms left.refer ((left.reads f).0 w).1)
    where
      no_items : (rs : List ℕ) → ReferToAll s v rs [] → rs ≡ []
      no_items [] h = refl
      no_items (r ∷ rs) h = absurd h

      none_left : (us : List Term) → StackOf s v stack us → Reads f [] us → stack ≡ []
      none_left [] h k = sym (reverse-reverse stack) ∙ ap reverse (no_items (reverse stack) h)
      none_left (t ∷ us) h k = absurd k

-- terms are an instance of patterns exactly where the patterns' parts are read from them
pub fits_reads : (ps : List Pattern) (ts : List Term) → Fits ps ts ↔ ((f : Letter → Term) × Reads f (parts_of ps) ts)
fits_reads ps ts = (
  λ (f, e). (f, rw e (filled_patterns f ps)),
  λ (f, w). (f, read_patterns f ps ts w),
)

pub none_fit : (parts : List Part) (ps : List Pattern) (ts : List Term) → parts ≡ parts_of ps → ((f : Letter → Term) → ¬ Reads f parts ts) → ¬ Fits ps ts
none_fit parts ps ts is none fits = let read = (fits_reads ps ts).0 fits in none read.0 (rw is read.1)

module _ (s : Table) (v : TermsView) (parts : List Part) (ps : List Pattern) (ts : List Term) (letters : Letters) (stack : List ℕ) (is : parts ≡ parts_of ps) (left : Left s v parts ts [] letters stack) where
  pub left_over : stack ≢ [] → ¬ Fits ps ts
  left_over some = none_fit parts ps ts is (some_left s v parts ts letters stack left some)

  pub left_matches : stack ≡ [] → Matches s v letters ps ts
  left_matches none = record {
    terms = left.example;
    agrees = left.agrees;
    give = λ f. (
      λ e. ((left.reads f).0 (rw (e, is) (filled_patterns f ps))).0,
      λ agrees. read_patterns f ps ts (rw is at ((left.reads f).1 (agrees, nothing_left s v parts ts letters stack left none f))),
    );
  }

-- what is matched fits
pub matches_fit : (s : Table) (v : TermsView) (letters : Letters) (ps : List Pattern) (ts : List Term) → Matches s v letters ps ts → Fits ps ts
matches_fit s v letters ps ts m = (m.terms, (m.give m.terms).1 m.agrees)

-- the stack is empty where its length says so
pub left_fits : (s : Table) (v : TermsView) (parts : List Part) (ps : List Pattern) (ts : List Term) (letters : Letters) (stack : List ℕ) (n : ℕ) (b : Bool) → parts ≡ parts_of ps → Left s v parts ts [] letters stack → n ≡ length stack → b ≡ nat_eq n 0 → b ≡ true → Matches s v letters ps ts
left_fits s v parts ps ts letters stack n b is left count test holds =
    left_matches s v parts ps ts letters stack is left (nil_from_length stack (sym count ∙ eqb-true n 0 (sym test ∙ holds)))

pub left_no_fit : (s : Table) (v : TermsView) (parts : List Part) (ps : List Pattern) (ts : List Term) (letters : Letters) (stack : List ℕ) (n : ℕ) (b : Bool) → parts ≡ parts_of ps → Left s v parts ts [] letters stack → n ≡ length stack → b ≡ nat_eq n 0 → b ≡ false → ¬ Fits ps ts
left_no_fit s v parts ps ts letters stack n b is left count test fails =
    left_over s v parts ps ts letters stack is left (λ e. absurd (let holds = eq-eqb n 0 (count ∙ ap length e) in cc))

-- where letters are found, the terms fit
pub told_fits : (s : Table) (v : TermsView) (letters : Letters) (ps : List Pattern) (ts : List Term) (b : Bool) → (b ≡ true → Matches s v letters ps ts) → (b ≡ false → ¬ Fits ps ts) → IsTrue b ↔ Fits ps ts
told_fits s v letters ps ts true some none = (λ e. matches_fit s v letters ps ts (some refl), λ h. refl)
told_fits s v letters ps ts false some none = (λ e. absurd cc, λ h. absurd (none refl h))
