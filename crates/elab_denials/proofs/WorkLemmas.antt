-- Private. Work goes on: only cells of terms made for the command are placed, and steps are added to a block.
use Rattle.std.proofs.Common.{◌≡◌, ◌≤◌, ◌+◌, ◌*◌, ◌⊎◌, inl, inr, ℕ, zero, suc, Bool, List, [], ◌∷◌, ◌++◌, length, slice_get, Option, Some, None, Contains}
use Rattle.std.specs.Map.{lookup}
use Rattle.std.proofs.Common.{Result, Ok, Err, OnOk, nat_eq, refl, sym, ◌∙◌, ap, subst, arith, append_assoc, length-append}
use Rattle.term_model.proofs.Lists.{contains_cases, contains_head, contains_later, contains_none}
use Rattle.term_model.specs.Flips.{equality}
use Rattle.term_model.specs.Terms.{Term}
use Rattle.term_pool.proofs.PlacedCells.{lacks_for_term, places_more, places_more_then, places_of_term}
use Rattle.std.proofs.lemmas.List.{append-nil}
use Rattle.std.specs.List.{AllByRecursion}
use Rattle.term_parts.specs.declared.answers.RuleStop.{RuleStop}
use Rattle.term_pool.proofs.References.{AreOne}
use Rattle.term_pool.specs.Placing.{LacksRoomFor, PlacesTerm}
use Rattle.term_pool.specs.Views.{TermsView, KeepsTerms, RefersTo, ReferToAll}
use Rattle.proof_store.specs.AddedSteps.{AddedStep}
use Rattle.proof_store.specs.declared.added.Link.{Link}
use Rattle.equality_steps.specs.declared.site.Site.{Site}
use Rattle.equality_steps.specs.Blocks.{AddsStep, Extends, IsBlockAt}
use Rattle.equality_steps.specs.Links.{LinkEquates}
use Rattle.flip_steps.specs.declared.forms.Formed.{Formed}
use Rattle.flip_steps.specs.declared.forms.Forms.{Forms}
use Rattle.flip_steps.specs.Memory.{AreForms, IsEquatedBy, IsRemembered, IsCellWithin, MeetsWithin, count_of}
use Rattle.flip_steps.specs.Stages.{IsMadeToJoin}
use Rattle.flip_steps.specs.Subterms.{IsWithin, argument, whole}
use Rattle.flip_steps.specs.Units.{AddsUnits, IsUnitOf}
use Rattle.flip_steps.proofs.OrderLemmas.{keeps_then, refers_later, stands_later}
use Rattle.equality_blocks.specs.Counts.{IsCellOf}
use Rattle.equality_blocks.specs.Made.{AreMadeSteps, IsMadeFor, IsMadeStep, StandsForMade, paired, stated}
use Rattle.equality_blocks.specs.Made.{equated as pair_equated, exchanged as pair_exchanged, turned as pair_turned}
use Rattle.equality_blocks.proofs.JoinedTerms.{joined_made}
use Rattle.equality_blocks.proofs.StayLemmas.{made_later, made_steps_later, paired_later, root_later}
use Rattle.elab_denials.specs.declared.work.Work.{Work}
use Rattle.elab_denials.specs.Working.{AreFlipsAt, IsDone, IsMadeEquality, IsPlaceAt, IsRootedAt, IsWork, LacksRoom, Went}

abbrev pub FormsStay : Type 0
FormsStay =
    (p : Site) (v w : TermsView) (old new : List AddedStep) (forms : Forms) → KeepsTerms v w → Extends old new → AreForms p v old forms →
    AreForms p w new forms

-- the last item, or one before it
get_cases : {X : Type 0} (xs : List X) (x y : X) (k : ℕ) → slice_get (xs ++ x ∷ []) k ≡ Some y → (slice_get xs k ≡ Some y) ⊎ (x ≡ y)
get_cases [] x y zero e = inr cc
get_cases [] x y (suc k) e = cc
get_cases (z ∷ xs) x y zero e = inl e
get_cases (z ∷ xs) x y (suc k) e = get_cases xs x y k e

-- a reference of some terms stands for one of them
pub record StandsAmong (p : Site) (v : TermsView) (ts : List Term) (r : ℕ) : Type 0 where
  pub term : Term
  pub refers : RefersTo p.symbols.now v r term
  pub among : Contains ts term

pub refer_among : (p : Site) (v : TermsView) (rs : List ℕ) (ts : List Term) (r : ℕ) → ReferToAll p.symbols.now v rs ts → Contains rs r → StandsAmong p v ts r
refer_among p v [] ts r h has = absurd (contains_none r has)
refer_among p v (x ∷ rs) [] r h has = absurd h
refer_among p v (x ∷ rs) (t ∷ ts) r h has = elim (contains_cases x r rs has) [
  | inl here ↦ record { term = t; refers = subst (λ q. RefersTo p.symbols.now v q t) here h.0; among = contains_head t ts }
  | inr later ↦
      let found = refer_among p v rs ts r h.1 later in
      record { term = found.term; refers = found.refers; among = contains_later t found.term ts found.among }
]

pub extends_then : (a b c : List AddedStep) → Extends a b → Extends b c → Extends a c
extends_then a b c h k = record {
  added = h.added ++ k.added;
  is = k.is ∙ ap (λ xs. xs ++ k.added) h.is ∙ append_assoc a h.added k.added;
}

pub extends_none : (a : List AddedStep) → Extends a a
extends_none a = record { added = []; is = sym (append-nil a) }

module _ (p : Site) where
  -- what is made
  pub went_none : (v w : TermsView) → w ≡ v → Went p v w
  went_none v w e = rw e (record { keeps = record { pool = refl; pass = record { places = refl; shares = refl; grows = λ r t k. k; sees = λ r a b k. k } }; placed = λ r a b h. inl h })

  pub went_then : (u v w : TermsView) → Went p u v → Went p v w → Went p u w
  went_then u v w h k = record {
    keeps = keeps_then u v w h.keeps k.keeps;
    placed = places_more_then p.symbols.now u.pass v.pass w.pass (IsMadeFor p w) k.keeps.pass
        (places_more p.symbols.now u.pass v.pass (IsMadeFor p v) (IsMadeFor p w) (made_later p v w k.keeps) h.placed) k.placed;
  }

  pub went_term : (v w : TermsView) (t : Term) → KeepsTerms v w → IsMadeFor p v t → PlacesTerm p.symbols.now v.pass w.pass t → Went p v w
  went_term v w t keeps made placed = record {
    keeps = keeps;
    placed = places_of_term p.symbols.now v.pass w.pass (IsMadeFor p w) t (made_later p v w keeps t made) placed;
  }

  pub lacks_term : (v w : TermsView) (t : Term) → KeepsTerms v w → IsMadeFor p v t → LacksRoomFor p.symbols.now w.pass t → LacksRoom p w
  lacks_term v w t keeps made lacks = lacks_for_term p.symbols.now w.pass (IsMadeFor p w) t (made_later p v w keeps t made) lacks

  module _ (v w : TermsView) (keeps : KeepsTerms v w) where
    pub later : (r : ℕ) (t : Term) → RefersTo p.symbols.now v r t → RefersTo p.symbols.now w r t
    later r t h = refers_later p.symbols.now v w r t keeps h

    pub cell_later : (r : ℕ) → IsCellOf p v r → IsCellOf p w r
    cell_later r h = record {
      root = h.root;
      is = root_later p v w keeps h.root h.is;
      within = record { cell = h.within.cell; stands = stands_later p.symbols.now v w keeps h.root r h.within.stands };
    }

    pub rooted_later : (r : ℕ) → IsRootedAt p v r → IsRootedAt p w r
    rooted_later r h = record { root = h.root; is = root_later p v w keeps h.root h.is; stands = stands_later p.symbols.now v w keeps h.root r h.stands }

    pub place_later : (a b : ℕ) → IsPlaceAt p v a b → IsPlaceAt p w a b
    place_later a b h = record {
      left = h.left;
      right = h.right;
      left_refers = later a h.left h.left_refers;
      right_refers = later b h.right h.right_refers;
      sides = h.sides;
      paired = paired_later p v w keeps h.left h.right h.paired;
      back = paired_later p v w keeps h.right h.left h.back;
      left_in = rooted_later a h.left_in;
      right_in = rooted_later b h.right_in;
    }

    pub flips_later : (a b : ℕ) → AreFlipsAt p v a b → AreFlipsAt p w a b
    flips_later a b h = record {
      left = h.left;
      right = h.right;
      left_refers = later a h.left h.left_refers;
      right_refers = later b h.right h.right_refers;
      equal = h.equal;
    }

    pub equality_later : (a b : ℕ) → IsMadeEquality p v a b → IsMadeEquality p w a b
    equality_later a b h = record {
      left = h.left;
      right = h.right;
      left_refers = later a h.left h.left_refers;
      right_refers = later b h.right h.right_refers;
      made = made_later p v w keeps (equality h.left h.right) h.made;
    }

  -- steps of terms that are made
  pub step_made : (v : TermsView) (a : AddedStep) (clause : List Term) → ReferToAll p.symbols.now v a.clause clause
      → ((x : Term) → Contains clause x → IsMadeFor p v x) → ((q : ℕ × Bool) → Contains a.pivots q → StandsForMade p v q.0) → IsMadeStep p v a
  step_made v a clause stands made pivots = record {
    literals = λ r has.
        let found = refer_among p v a.clause clause r stands has in
        record { term = found.term; refers = found.refers; made = made found.term found.among };
    pivots = pivots;
  }

  pub steps_made : (v : TermsView) (steps : List AddedStep) (a : AddedStep) → AreMadeSteps p v steps → IsMadeStep p v a → AreMadeSteps p v (steps ++ a ∷ [])
  steps_made v steps a h k number x there = elim (get_cases steps a x number there) [
    | inl before ↦ h number x before
    | inr last ↦ subst (IsMadeStep p v) last k
  ]

module _ (stay : FormsStay) (p : Site) where
  -- more is known
  pub work_later : (v w : TermsView) (work : Work) → KeepsTerms v w → IsBlockAt p w work.block → IsWork p v work → IsWork p w work
  work_later v w work keeps block h = record {
    block = block;
    made = made_steps_later p v w keeps work.block h.made;
    forms = stay p v w work.block work.block work.forms keeps (extends_none work.block) h.forms;
    cells = λ r has. cell_later p v w keeps r (h.cells r has);
  }

  -- one step
  pub done_step : (v w : TermsView) (old : Work) (block : List AddedStep) (link : Link) (clause : List Term) (pivots : List (ℕ × Bool)) → KeepsTerms v w
      → IsWork p v old → IsBlockAt p w block → AddsStep p w old.block block link clause pivots → ((x : Term) → Contains clause x → IsMadeFor p w x)
      → ((q : ℕ × Bool) → Contains pivots q → StandsForMade p w q.0) → IsDone p w old (record { block = block; forms = old.forms }) 1
  done_step v w old block link clause pivots keeps h met adds made pivots_made =
      let extends : Extends old.block block = record { added = adds.step ∷ []; is = adds.more } in
      let more : length block ≡ length old.block + 1 = ap length adds.more ∙ length-append old.block (adds.step ∷ []) in
      record {
        work = record {
          block = met;
          made = subst (AreMadeSteps p w) (sym adds.more)
              (steps_made p w old.block adds.step (made_steps_later p v w keeps old.block h.made)
              (step_made p w adds.step clause adds.stands made (subst (λ qs. (q : ℕ × Bool) → Contains qs q → StandsForMade p w q.0) (sym adds.pivots_are) pivots_made)));
          forms = stay p v w old.block block old.forms keeps extends h.forms;
          cells = λ r has. cell_later p v w keeps r (h.cells r has);
        };
        extends = extends;
        few = omega arith;
      }

module _ (p : Site) where
  -- one piece of work and then another
  pub done_then : (w : TermsView) (v : TermsView) (a b c : Work) (m n k : ℕ) → m + n ≤ k → IsDone p v a b m → IsDone p w b c n → IsDone p w a c k
  done_then w v a b c m n k low h g = record {
    work = g.work;
    extends = extends_then a.block b.block c.block h.extends g.extends;
    few = let one = h.few in let two = g.few in omega (arith, one, two);
  }

  pub done_none : (v : TermsView) (a : Work) (n : ℕ) → IsWork p v a → IsDone p v a a n
  done_none v a n h = record { work = h; extends = extends_none a.block; few = omega arith }

  pub done_more : (v : TermsView) (a b : Work) (m n : ℕ) → m ≤ n → IsDone p v a b m → IsDone p v a b n
  done_more v a b m n low h = record { work = h.work; extends = h.extends; few = let one = h.few in omega (arith, one) }

-- terms are joined
within_then : (t u x : Term) → IsWithin t u → IsWithin u x → IsWithin t x
within_then t u _ h whole = h
within_then t u _ h (argument y a k has) = argument y a (within_then t u y h k) has

module _ (p : Site) (w : TermsView) where
  pub join_made : AreOne p.symbols.now w → (a b : ℕ) → IsPlaceAt p w a b → (x : Term) → IsMadeToJoin p.symbols.now w a b x → IsMadeFor p w x
  join_made one a b h x made =
      joined_made p w one a b h.left h.right h.left_refers h.right_refers h.paired h.left_in.root h.right_in.root h.left_in.is h.left_in.stands h.right_in.is
      h.right_in.stands x made

  cell_within : AreOne p.symbols.now w → (a r : ℕ) → IsRootedAt p w a → IsCellWithin p.symbols.now w a r → IsCellOf p w r
  cell_within one a r h k =
      let same : k.stands.whole ≡ h.stands.term = (one a a k.stands.whole h.stands.term k.stands.whole_refers h.stands.refers).0 refl in
      record {
        root = h.root;
        is = h.is;
        within = record {
          cell = k.cell;
          stands = record {
            whole = h.stands.whole;
            whole_refers = h.stands.whole_refers;
            term = k.stands.term;
            refers = k.stands.refers;
            within = within_then h.stands.whole h.stands.term k.stands.term h.stands.within
                (subst (λ t. IsWithin t k.stands.term) same k.stands.within);
          };
        };
      }

  unit_made : AreOne p.symbols.now w → (a b : ℕ) → IsPlaceAt p w a b → (s : AddedStep) → IsUnitOf p.symbols.now w (IsMadeToJoin p.symbols.now w a b) s → IsMadeStep p w s
  unit_made one a b h s k =
      step_made p w s (k.literal ∷ []) k.stands (λ x has. elim (contains_cases k.literal x [] has) [
        | inl here ↦ subst (IsMadeFor p w) here (join_made one a b h k.literal k.wanted)
        | inr none ↦ absurd (contains_none x none)
      ])
      (λ q has. absurd (contains_none q (subst (λ qs. Contains qs q) k.pivots has)))

  units_made : AreOne p.symbols.now w → (a b : ℕ) → IsPlaceAt p w a b → (old added : List AddedStep) → AreMadeSteps p w old
      → AllByRecursion (IsUnitOf p.symbols.now w (IsMadeToJoin p.symbols.now w a b)) added → AreMadeSteps p w (old ++ added)
  units_made one a b h [] [] made k number x there = made number x there
  units_made one a b h [] (s ∷ added) made k zero x there = let e : s ≡ x = cc in subst (IsMadeStep p w) e (unit_made one a b h s k.0)
  units_made one a b h [] (s ∷ added) made k (suc number) x there = units_made one a b h [] added (λ n y e. cc) k.1 number x there
  units_made one a b h (s ∷ old) added made k zero x there = made zero x there
  units_made one a b h (s ∷ old) added made k (suc number) x there = units_made one a b h old added (λ n y e. made (suc n) y e) k number x there

-- steps that join two terms
pub done_join : (p : Site) (v w : TermsView) (old new : Work) (a b : ℕ) → AreOne p.symbols.now w → KeepsTerms v w → IsWork p v old → IsPlaceAt p v a b
    → IsBlockAt p w new.block → AreForms p w new.block new.forms → AddsUnits p w old.block new.block (IsMadeToJoin p.symbols.now w a b)
    → length new.block + 3 * count_of old.forms ≤ length old.block + 3 * count_of new.forms + 2
    → MeetsWithin p.symbols.now w a b old.forms new.forms → IsDone p w old new 2
done_join p v w old new a b one keeps h place block forms units few met =
    let here = place_later p v w keeps a b place in
    record {
      work = record {
        block = block;
        made = subst (AreMadeSteps p w) (sym units.is) (units_made p w one a b here old.block units.added (made_steps_later p v w keeps old.block h.made) units.units);
        forms = forms;
        cells = λ r has. elim (met r has) [
          | inl before ↦ cell_later p v w keeps r (h.cells r before)
          | inr (inl left) ↦ cell_within p w one a r here.left_in left
          | inr (inr right) ↦ cell_within p w one b r here.right_in right
        ];
      };
      extends = record { added = units.added; is = units.is };
      few = few;
    }

-- the same of a result
pub joined_done : (p : Site) (v w : TermsView) (old new : Work) (a b : ℕ) → AreOne p.symbols.now w → KeepsTerms v w → IsWork p v old → IsPlaceAt p v a b
    → (r : Result (Option Link) RuleStop) → OnOk r (IsBlockAt p w new.block) → OnOk r (AreForms p w new.block new.forms)
    → OnOk r (AddsUnits p w old.block new.block (IsMadeToJoin p.symbols.now w a b))
    → OnOk r (length new.block + 3 * count_of old.forms ≤ length old.block + 3 * count_of new.forms + 2)
    → OnOk r (MeetsWithin p.symbols.now w a b old.forms new.forms) → OnOk r (IsDone p w old new 2)
joined_done p v w old new a b one keeps h place (Ok l) block forms units few met = done_join p v w old new a b one keeps h place block forms units few met
joined_done p v w old new a b one keeps h place (Err e) block forms units few met = tt

-- clauses of one literal and of two
pub only_made : (p : Site) (w : TermsView) (x : Term) → IsMadeFor p w x → (y : Term) → Contains (x ∷ []) y → IsMadeFor p w y
only_made p w x h y has = elim (contains_cases x y [] has) [ inl here ↦ subst (IsMadeFor p w) here h | inr none ↦ absurd (contains_none y none) ]

pub both_made : (p : Site) (w : TermsView) (x z : Term) → IsMadeFor p w x → IsMadeFor p w z → (y : Term) → Contains (x ∷ z ∷ []) y → IsMadeFor p w y
both_made p w x z h k y has = elim (contains_cases x y (z ∷ []) has) [
  | inl here ↦ subst (IsMadeFor p w) here h
  | inr below ↦ only_made p w z k y below
]

pub no_pivots : (p : Site) (w : TermsView) (q : ℕ × Bool) → Contains [] q → StandsForMade p w q.0
no_pivots p w q has = absurd (contains_none q has)

-- the sides of a place that are one term
module _ (p : Site) (v : TermsView) (one : AreOne p.symbols.now v) (a b : ℕ) (h : IsPlaceAt p v a b) (same : a ≡ b) where
  pub same_sides : h.left ≡ h.right
  same_sides = (one a b h.left h.right h.left_refers h.right_refers).0 same

  pub reflexive_made : IsMadeFor p v (equality h.left h.left)
  reflexive_made = subst (λ u. IsMadeFor p v (equality h.left u)) (sym same_sides) (stated (equality h.left h.right) (paired h.left h.right (equality h.left h.right) h.paired pair_equated))

-- what a link says of two terms, where there is one
pub equated_some : (p : Site) (v : TermsView) (steps : List AddedStep) (o : Option Link) (link : Link) (a b : ℕ) → o ≡ Some link → IsEquatedBy p v steps o a b
    → LinkEquates p v steps link a b
equated_some p v steps o link a b e h = (subst (λ x. IsEquatedBy p v steps x a b) e h).1

pub equated_none : (p : Site) (v : TermsView) (steps : List AddedStep) (o : Option Link) (a b : ℕ) → o ≡ None → IsEquatedBy p v steps o a b → a ≡ b
equated_none p v steps o a b e h = subst (λ x. IsEquatedBy p v steps x a b) e h

-- the literals of a place
pub one_side : (p : Site) (v : TermsView) (a b : ℕ) (h : IsPlaceAt p v a b) → IsMadeEquality p v a b
one_side p v a b h = record {
  left = h.left;
  right = h.right;
  left_refers = h.left_refers;
  right_refers = h.right_refers;
  made = stated (equality h.left h.right) (paired h.left h.right (equality h.left h.right) h.paired pair_equated);
}

pub other_side : (p : Site) (v : TermsView) (a b : ℕ) (h : IsPlaceAt p v a b) → IsMadeEquality p v b a
other_side p v a b h = record {
  left = h.right;
  right = h.left;
  left_refers = h.right_refers;
  right_refers = h.left_refers;
  made = stated (equality h.right h.left) (paired h.left h.right (equality h.right h.left) h.paired pair_turned);
}

pub exchanged_at : (p : Site) (v w : TermsView) (a b first second : ℕ) (h : IsPlaceAt p v a b) → KeepsTerms v w
    → RefersTo p.symbols.now w first (equality h.right h.left) → RefersTo p.symbols.now w second (equality h.left h.right) → IsMadeEquality p w first second
exchanged_at p v w a b first second h keeps l r = record {
  left = equality h.right h.left;
  right = equality h.left h.right;
  left_refers = l;
  right_refers = r;
  made = stated (equality (equality h.right h.left) (equality h.left h.right))
      (paired h.right h.left (equality (equality h.right h.left) (equality h.left h.right)) (paired_later p v w keeps h.right h.left h.back) pair_exchanged);
}

-- nothing is remembered by a map without entries
pub nothing_remembered : (forms : Forms) (r : ℕ) → count_of forms ≡ 0 → IsRemembered forms r → ⊥
nothing_remembered forms r e h = go forms.formed.entries e h.is
  where
    go : (xs : List (ℕ × Formed)) → length xs ≡ 0 → lookup (nat_eq r) xs ≡ Some h.formed → ⊥
    go [] e f = cc
    go (x ∷ xs) e f = cc

pub none_made : (p : Site) (v : TermsView) → AreMadeSteps p v []
none_made p v number a there = cc
