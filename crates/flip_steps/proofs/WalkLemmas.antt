-- Private. The walk over the terms that stand in a term: what holds before each visit.
use Rattle.std.proofs.Common.{◌≡◌, ◌<◌, ◌≤◌, ◌+◌, ◌*◌, ◌⊎◌, inl, inr, ℕ, List, [], ◌∷◌, ◌++◌, map, length, None, Contains, refl, sym, subst, arith}
use Rattle.std.proofs.lemmas.List.Sums.{sum_by_push, sum_by-append, sum_by-cons}
use Rattle.std.specs.List.{AllByRecursion}
use Rattle.pair_pool.specs.Views.{IsOneToOne, HasPartsOfTrees}
use Rattle.proof_store.specs.AddedSteps.{AddedStep}
use Rattle.sym_table.specs.Table.{IsTable}
use Rattle.term_model.specs.Terms.{Term, numeral, variable, operation, call, let_in}
use Rattle.term_model.proofs.Lists.{all_last, contains_head, contains_later}
use Rattle.term_pool.specs.CellCounts.{Has}
use Rattle.term_pool.specs.Decoding.{HasTermsAt}
use Rattle.term_pool.specs.Placing.{LacksCellOf, PlacesCellsOf}
use Rattle.term_pool.specs.Reading.{IsLet, arguments_of}
use Rattle.term_pool.specs.Views.{TermsView, KeepsTerms, RefersTo, ReferToAll}
use Rattle.term_pool.proofs.PlacedCells.{lacks_more, places_more, places_more_then}
use Rattle.term_pool.proofs.ReadingLemmas.{keeps-same}
use Rattle.term_pool.proofs.TermLemmas.{equal_where}
use Rattle.equality_steps.specs.Blocks.{IsBlockAt}
use Rattle.equality_steps.specs.Sites.{IsTermAt}
use Rattle.equality_steps.specs.declared.site.Site.{Site}
use Rattle.flip_steps.specs.declared.forms.Formed.{Formed}
use Rattle.flip_steps.specs.declared.forms.Forms.{Forms}
use Rattle.flip_steps.specs.declared.visits.Visit.{Visit}
use Rattle.flip_steps.specs.Forms.{IsFormOf}
use Rattle.flip_steps.specs.Memory.{AreForms, IsCellWithin, IsFormedAs, IsRemembered, count_of}
use Rattle.flip_steps.specs.Remembering.{IsSettled, Notes, alone, found_in}
use Rattle.flip_steps.specs.Stages.{StandsBefore, IsMadeAt, StandsIn, IsMadeFrom}
use Rattle.flip_steps.specs.Subterms.{whole, argument}
use Rattle.flip_steps.specs.Units.{AddsUnits}
use Rattle.flip_steps.specs.Walks.{visited, IsInOrder, level_at, IsArgumentAt, turns_at, turns_left, IsSpot, IsFirstVisit, was_known}
use Rattle.flip_steps.specs.Walks.{was_let, was_opened}
use Rattle.flip_steps.specs.Walks.{MeetsFrom, IsVisitable, IsVisit, was_first, was_last}
use Rattle.flip_steps.proofs.ArgumentLemmas.{arguments_before, argument_before, opened_lower, reference_in, turns_is, turns_opened}
use Rattle.flip_steps.proofs.MemoryLemmas.{LinksStay, forms_later}
use Rattle.flip_steps.proofs.NoteLemmas.{forms_noted, met_noted, no_settled, none_found, settled_here, settled_only, settled_stays}
use Rattle.flip_steps.proofs.OrderLemmas.{keeps_then, made_from_later, refers_later, stands_later}
use Rattle.flip_steps.proofs.SubtermLemmas.{within_free, within_sorted}
use Rattle.flip_steps.proofs.UnitLemmas.{units_extend, units_more, units_none, units_then}
use Rattle.flip_steps.proofs.VisitLemmas.{all_both, all_front, has_behind, has_first, has_second, order_done, order_last, order_more, order_of_first}

pub record IsWalking (p : Site) (u v : TermsView) (first steps : List AddedStep) (before forms : Forms) (root : ℕ) (visits : List Visit) : Type 0 where
  pub side : IsTermAt p u root
  pub keeps : KeepsTerms u v
  pub block : IsBlockAt p v steps
  pub right : AreForms p v steps forms
  pub order : IsInOrder (level_at p.symbols.now u) (IsArgumentAt p.symbols.now u) (IsSettled forms) visits
  pub spots : AllByRecursion (IsSpot p.symbols.now u side.term) visits
  pub root_there : IsSettled forms root ⊎ Has (map visited visits) root
  pub units : AddsUnits p v first steps (IsMadeFrom p.symbols.now v root)
  pub few : length steps + 3 * count_of before ≤ length first + 3 * count_of forms
  pub met : MeetsFrom p.symbols.now v root before forms
  pub placed : PlacesCellsOf p.symbols.now u.pass v.pass (IsMadeFrom p.symbols.now v root)

pub walk_start : (p : Site) (u : TermsView) (steps : List AddedStep) (forms : Forms) (root : ℕ) → IsTermAt p u root → IsBlockAt p u steps
    → AreForms p u steps forms
    → IsWalking p u u steps steps forms forms root (Visit.Open root ∷ [])
walk_start p u steps forms root side block right = record {
  side = side;
  keeps = keeps-same u u refl;
  block = block;
  right = right;
  order = tt;
  spots = (record { term = side.term; refers = side.refers; within = whole; may = tt }, tt);
  root_there = inr (inl refl);
  units = units_none p u steps steps (IsMadeFrom p.symbols.now u root) refl;
  few = omega arith;
  met = λ r h. inl h;
  placed = λ r a b h. inl h;
}

-- a let is its own form
let_form : (before : Term → Term → Type 0) (t : Term) → IsLet t → IsFormOf before t t
let_form before (numeral n) h = absurd h
let_form before (variable x) h = absurd h
let_form before (operation op ts) h = absurd h
let_form before (call f ts) h = absurd h
let_form before (let_in bs u) h = refl

pub walk_root : (p : Site) (u v : TermsView) (first steps : List AddedStep) (before forms : Forms) (root : ℕ) → IsWalking p u v first steps before forms root []
    → IsSettled forms root
walk_root p u v first steps before forms root h = go h.root_there
  where
    go : IsSettled forms root ⊎ Has (map visited []) root → IsSettled forms root
    go (inl k) = k
    go (inr k) = absurd k

module _ (p : Site) (u v : TermsView) (first steps : List AddedStep) (before forms : Forms) (root : ℕ) (xs : List Visit) (last : Visit)
    (table : IsTable p.symbols.now) (terms : HasTermsAt u) (parts : HasPartsOfTrees u.pass) (one : IsOneToOne v.pass)
    (h : IsWalking p u v first steps before forms root (xs ++ last ∷ [])) where
  here : IsSpot p.symbols.now u h.side.term last
  here = all_last (IsSpot p.symbols.now u h.side.term) xs last h.spots

  here_later : RefersTo p.symbols.now v (visited last) here.term
  here_later = refers_later p.symbols.now u v (visited last) here.term h.keeps here.refers

  pub here_stands : StandsIn p.symbols.now v root (visited last)
  here_stands = record {
    whole = h.side.term;
    whole_refers = refers_later p.symbols.now u v root h.side.term h.keeps h.side.refers;
    term = here.term;
    refers = here_later;
    within = here.within;
  }

  root_done : (new : Forms) → ((q : ℕ) → IsSettled forms q → IsSettled new q) → IsSettled new (visited last) → IsSettled new root ⊎ Has (map visited xs) root
  root_done new stays settled = go h.root_there
    where
      there : Has (map visited xs) root ⊎ Has (map visited (last ∷ [])) root → IsSettled new root ⊎ Has (map visited xs) root
      there (inl k) = inr k
      there (inr (inl e)) = inl (subst (IsSettled new) (sym e) settled)
      there (inr (inr k)) = absurd k

      go : IsSettled forms root ⊎ Has (map visited (xs ++ last ∷ [])) root → IsSettled new root ⊎ Has (map visited xs) root
      go (inl k) = inl (stays root k)
      go (inr k) = there (has_behind xs (last ∷ []) root k)

  -- the form was known
  walk_known : IsSettled forms (visited last) → IsWalking p u v first steps before forms root xs
  walk_known settled = record {
    side = h.side;
    keeps = h.keeps;
    block = h.block;
    right = h.right;
    order = order_done (level_at p.symbols.now u) (IsArgumentAt p.symbols.now u) (IsSettled forms) (IsSettled forms) last (λ q k. k)
        (λ q k. inl k) settled xs h.order;
    spots = all_front (IsSpot p.symbols.now u h.side.term) xs (last ∷ []) h.spots;
    root_there = root_done forms (λ q k. k) settled;
    units = h.units;
    few = h.few;
    met = h.met;
    placed = h.placed;
  }

  -- a form is noted, perhaps with further steps
  pub walk_noted : LinksStay → (w : TermsView) (more : List AddedStep) (new : Forms) (x : Formed) → KeepsTerms v w → IsFormedAs p w more (visited last) x
      → Notes forms new (visited last) x → IsBlockAt p w more → AddsUnits p w steps more (IsMadeAt p.symbols.now w (visited last))
      → length more ≤ length steps + 3 → PlacesCellsOf p.symbols.now v.pass w.pass (IsMadeAt p.symbols.now w (visited last))
      → IsWalking p u w first more before new root xs
  walk_noted stay w more new x keeps formed notes block units few placed = record {
    side = h.side;
    keeps = keeps_then u v w h.keeps keeps;
    block = block;
    right = forms_noted forms new (visited last) x notes p w more
        (forms_later stay p v w steps more keeps (units_extend p w steps more (IsMadeAt p.symbols.now w (visited last)) units) forms h.right) formed;
    order = order_done (level_at p.symbols.now u) (IsArgumentAt p.symbols.now u) (IsSettled forms) (IsSettled new) last
        (settled_stays forms new (visited last) x notes) (settled_only forms new (visited last) x notes)
        (settled_here forms new (visited last) x notes) xs h.order;
    spots = all_front (IsSpot p.symbols.now u h.side.term) xs (last ∷ []) h.spots;
    root_there = root_done new (settled_stays forms new (visited last) x notes) (settled_here forms new (visited last) x notes);
    units = units_then p w first steps more (IsMadeFrom p.symbols.now w root)
        (units_more p v w first steps (IsMadeFrom p.symbols.now v root) (IsMadeFrom p.symbols.now w root) keeps
        (made_from_later p.symbols.now v w keeps.pass.grows root) h.units)
        (units_more p w w steps more (IsMadeAt p.symbols.now w (visited last)) (IsMadeFrom p.symbols.now w root) (keeps-same w w refl) made units);
    few = let a = h.few in let b = notes.more in omega (arith, few);
    met = met_noted forms new (visited last) x notes p.symbols.now w root before stands_there
        (λ q k. met_there (h.met q k));
    placed = places_more_then p.symbols.now u.pass v.pass w.pass (IsMadeFrom p.symbols.now w root) keeps.pass
        (places_more p.symbols.now u.pass v.pass (IsMadeFrom p.symbols.now v root) (IsMadeFrom p.symbols.now w root)
        (made_from_later p.symbols.now v w keeps.pass.grows root) h.placed)
        (places_more p.symbols.now v.pass w.pass (IsMadeAt p.symbols.now w (visited last)) (IsMadeFrom p.symbols.now w root) made placed);
  }
    where
      stands_there : StandsIn p.symbols.now w root (visited last)
      stands_there = stands_later p.symbols.now v w keeps root (visited last) here_stands

      made : (y : Term) → IsMadeAt p.symbols.now w (visited last) y → IsMadeFrom p.symbols.now w root y
      made y k = record { from = visited last; stands = stands_later p.symbols.now v w keeps root (visited last) here_stands; made = k }

      met_there : {q : ℕ} → IsRemembered before q ⊎ IsCellWithin p.symbols.now v root q → IsRemembered before q ⊎ IsCellWithin p.symbols.now w root q
      met_there (inl k) = inl k
      met_there {q = q} (inr k) = inr (record { cell = k.cell; stands = stands_later p.symbols.now v w keeps root q k.stands })

  -- what is placed where a visit fails
  pub walk_placed : (w : TermsView) → KeepsTerms v w → PlacesCellsOf p.symbols.now v.pass w.pass (IsMadeAt p.symbols.now w (visited last))
      → PlacesCellsOf p.symbols.now u.pass w.pass (IsMadeFrom p.symbols.now w root)
  walk_placed w keeps placed =
      places_more_then p.symbols.now u.pass v.pass w.pass (IsMadeFrom p.symbols.now w root) keeps.pass
      (places_more p.symbols.now u.pass v.pass (IsMadeFrom p.symbols.now v root) (IsMadeFrom p.symbols.now w root)
      (made_from_later p.symbols.now v w keeps.pass.grows root) h.placed)
      (places_more p.symbols.now v.pass w.pass (IsMadeAt p.symbols.now w (visited last)) (IsMadeFrom p.symbols.now w root)
      (λ y k. record { from = visited last; stands = stands_later p.symbols.now v w keeps root (visited last) here_stands; made = k }) placed)

  pub walk_lacks : (w : TermsView) → KeepsTerms v w → LacksCellOf p.symbols.now w.pass (IsMadeAt p.symbols.now w (visited last))
      → LacksCellOf p.symbols.now w.pass (IsMadeFrom p.symbols.now w root)
  walk_lacks w keeps lacks =
      lacks_more p.symbols.now w.pass (IsMadeAt p.symbols.now w (visited last)) (IsMadeFrom p.symbols.now w root)
      (λ y k. record { from = visited last; stands = stands_later p.symbols.now v w keeps root (visited last) here_stands; made = k }) lacks

-- a first visit
module _ (p : Site) (u v : TermsView) (first steps : List AddedStep) (before forms : Forms) (root : ℕ) (xs : List Visit) (r : ℕ)
    (table : IsTable p.symbols.now) (terms : HasTermsAt u) (parts : HasPartsOfTrees u.pass) (one : IsOneToOne v.pass)
    (h : IsWalking p u v first steps before forms root (xs ++ Visit.Open r ∷ [])) where
  spot : IsSpot p.symbols.now u h.side.term (Visit.Open r)
  spot = here p u v first steps before forms root xs (Visit.Open r) table terms parts one h

  -- a term that is known to be this one
  spot_is : (t : Term) → RefersTo p.symbols.now v r t → t ≡ spot.term
  spot_is t refers =
      (equal_where p.symbols.now v table one r r t spot.term refers (refers_later p.symbols.now u v r spot.term h.keeps spot.refers)).0 refl

  module _ (args : List ℕ) (refer : ReferToAll p.symbols.now u args (arguments_of spot.term)) (no_let : IsLet spot.term → ⊥)
      (unmet : found_in forms r ≡ None) where
    opened_spots : (qs : List ℕ) (ts : List Term) → ReferToAll p.symbols.now u qs ts → ((a : Term) → Contains ts a → Contains (arguments_of spot.term) a)
        → AllByRecursion (IsSpot p.symbols.now u h.side.term) (map (λ q. Visit.Open q) qs)
    opened_spots [] ts k among = tt
    opened_spots (q ∷ qs) [] k among = absurd k
    opened_spots (q ∷ qs) (a ∷ ts) k among = (
      record { term = a; refers = k.0; within = argument spot.term a spot.within (among a (contains_head a ts)); may = tt },
      opened_spots qs ts k.1 (λ b there. among b (contains_later a b ts there)),
    )

    has_opened : (qs : List ℕ) (q : ℕ) → Has qs q → Has (map visited (map (λ x. Visit.Open x) qs)) q
    has_opened [] q there = there
    has_opened (y ∷ qs) q (inl e) = inl e
    has_opened (y ∷ qs) q (inr there) = inr (has_opened qs q there)

    -- the argument's reference is one of these
    among_opened : (q : ℕ) → IsArgumentAt p.symbols.now u r q → Has (map visited (map (λ x. Visit.Open x) args)) q
    among_opened q k =
        let same : k.whole ≡ spot.term = spot_is k.whole (refers_later p.symbols.now u v r k.whole h.keeps k.refers) in
        let found = reference_in p.symbols.now u args (arguments_of spot.term) k.part refer (subst (λ t. Contains (arguments_of t) k.part) same k.is) in
        let reference : found.reference ≡ q =
        (equal_where p.symbols.now v table one found.reference q k.part k.part (refers_later p.symbols.now u v found.reference k.part h.keeps found.refers)
        (refers_later p.symbols.now u v q k.part h.keeps k.part_refers)).1 refl in
        has_opened args q (subst (Has args) reference found.has)

    abbrev more : List Visit
    more = Visit.Close r ∷ map (λ q. Visit.Open q) args

    lower : AllByRecursion (λ x. level_at p.symbols.now u (visited x) < level_at p.symbols.now u r) (map (λ q. Visit.Open q) args)
    lower = opened_lower p.symbols.now u table terms r spot.term spot.refers args (arguments_of spot.term) refer (λ a there. there)

    opened_order : IsInOrder (level_at p.symbols.now u) (IsArgumentAt p.symbols.now u) (IsSettled forms) more
    opened_order = (
      record { unmet = no_settled forms r unmet; lower = lower; arguments = λ q k. inr (among_opened q k) },
      order_of_first (level_at p.symbols.now u) (IsArgumentAt p.symbols.now u) (IsSettled forms) args,
    )

    low_or_equal : (ys : List Visit) → AllByRecursion (λ x. level_at p.symbols.now u (visited x) < level_at p.symbols.now u r) ys
        → AllByRecursion (λ x. level_at p.symbols.now u (visited x) ≤ level_at p.symbols.now u r) ys
    low_or_equal [] k = tt
    low_or_equal (y ∷ ys) k = (let less = k.0 in omega (arith, less), low_or_equal ys k.1)

    walk_opened : IsWalking p u v first steps before forms root (xs ++ more)
    walk_opened = record {
      side = h.side;
      keeps = h.keeps;
      block = h.block;
      right = h.right;
      order = order_more (level_at p.symbols.now u) (IsArgumentAt p.symbols.now u) (IsSettled forms) (Visit.Open r) more
          (omega arith, low_or_equal (map (λ q. Visit.Open q) args) lower) (inl refl) xs h.order opened_order;
      spots = all_both (IsSpot p.symbols.now u h.side.term) xs more (all_front (IsSpot p.symbols.now u h.side.term) xs (Visit.Open r ∷ []) h.spots) (
        record { term = spot.term; refers = spot.refers; within = spot.within; may = no_let },
        opened_spots args (arguments_of spot.term) refer (λ a there. there),
      );
      root_there = root_opened h.root_there;
      units = h.units;
      few = h.few;
      met = h.met;
      placed = h.placed;
    }
      where
        there : Has (map visited xs) root ⊎ Has (map visited (Visit.Open r ∷ [])) root → IsSettled forms root ⊎ Has (map visited (xs ++ more)) root
        there (inl k) = inr (has_first xs more root k)
        there (inr (inl e)) = inr (has_second xs more root (inl e))
        there (inr (inr k)) = absurd k

        root_opened : IsSettled forms root ⊎ Has (map visited (xs ++ Visit.Open r ∷ [])) root → IsSettled forms root ⊎ Has (map visited (xs ++ more)) root
        root_opened (inl k) = inl k
        root_opened (inr k) = there (has_behind xs (Visit.Open r ∷ []) root k)

    opened_smaller : turns_left p.symbols.now u (xs ++ more) < turns_left p.symbols.now u (xs ++ Visit.Open r ∷ [])
    opened_smaller =
        let a = sum_by-append (turns_at p.symbols.now u) xs more in
        let b = sum_by_push (turns_at p.symbols.now u) xs (Visit.Open r) in
        let c = sum_by-cons (turns_at p.symbols.now u) (Visit.Close r) (map (λ q. Visit.Open q) args) in
        let d = turns_opened p.symbols.now u table terms args (arguments_of spot.term) refer in
        let e = turns_is p.symbols.now u table terms r spot.term spot.refers in
        omega (arith, a, b, c, d, e)

  first_smaller : turns_left p.symbols.now u xs < turns_left p.symbols.now u (xs ++ Visit.Open r ∷ [])
  first_smaller =
      let b = sum_by_push (turns_at p.symbols.now u) xs (Visit.Open r) in
      let e = turns_is p.symbols.now u table terms r spot.term spot.refers in
      omega (arith, b, e)

  pub walk_first : LinksStay → (new : Forms) (ys : List Visit) → IsFirstVisit p.symbols.now v r forms new xs ys
      → IsWalking p u v first steps before new root ys × (turns_left p.symbols.now u ys < turns_left p.symbols.now u (xs ++ Visit.Open r ∷ []))
  walk_first stay new ys (was_known settled same e) = (
    subst (λ zs. IsWalking p u v first steps before new root zs) (sym e)
        (subst (λ (z : Forms). IsWalking p u v first steps before z root xs) (sym same)
        (walk_known p u v first steps before forms root xs (Visit.Open r) table terms parts one h settled)),
    subst (λ zs. turns_left p.symbols.now u zs < turns_left p.symbols.now u (xs ++ Visit.Open r ∷ [])) (sym e) first_smaller,
  )
  walk_first stay new ys (was_let t refers is_let notes e) = (
    subst (λ zs. IsWalking p u v first steps before new root zs) (sym e)
        (walk_noted p u v first steps before forms root xs (Visit.Open r) table terms parts one h stay v steps new (alone r) (keeps-same v v refl)
        (record { term = t; form = t; refers = refers; form_refers = refers; is = let_form (StandsBefore p.symbols.now v) t is_let; link = refl })
        notes h.block (units_none p v steps steps (IsMadeAt p.symbols.now v r) refl) (omega arith) (λ q a b k. inl k)),
    subst (λ zs. turns_left p.symbols.now u zs < turns_left p.symbols.now u (xs ++ Visit.Open r ∷ [])) (sym e) first_smaller,
  )
  walk_first stay new ys (was_opened t args refers no_let refer unmet same e) =
      let is = spot_is t refers in
      let known = arguments_before p.symbols.now u v parts table one h.keeps spot.term r args spot.refers
      (subst (λ x. ReferToAll p.symbols.now v args (arguments_of x)) is refer) in
      let alone_not : IsLet spot.term → ⊥ = subst (λ x. IsLet x → ⊥) is no_let in (
        subst (λ zs. IsWalking p u v first steps before new root zs) (sym e)
            (subst (λ (z : Forms). IsWalking p u v first steps before z root (xs ++ Visit.Close r ∷ map (λ q. Visit.Open q) args)) (sym same)
            (walk_opened args known alone_not unmet)),
        subst (λ zs. turns_left p.symbols.now u zs < turns_left p.symbols.now u (xs ++ Visit.Open r ∷ [])) (sym e) (opened_smaller args known alone_not unmet),
      )

-- what a visit asks for
module _ (p : Site) (u v : TermsView) (first steps : List AddedStep) (before forms : Forms) (root : ℕ) (xs : List Visit)
    (table : IsTable p.symbols.now) (terms : HasTermsAt u) (parts : HasPartsOfTrees u.pass) (one : IsOneToOne v.pass) where
  pub walk_visitable : (last : Visit) → IsWalking p u v first steps before forms root (xs ++ last ∷ []) → IsVisitable p v forms last
  walk_visitable (Visit.Open r) h =
      let k = here p u v first steps before forms root xs (Visit.Open r) table terms parts one h in
      record { means = k.term; refers = refers_later p.symbols.now u v r k.term h.keeps k.refers }
  walk_visitable (Visit.Close r) h =
      let k = here p u v first steps before forms root xs (Visit.Close r) table terms parts one h in
      let opened = order_last (level_at p.symbols.now u) (IsArgumentAt p.symbols.now u) (IsSettled forms) xs r h.order in
      let sorted = within_sorted h.side.term k.term k.within (record { sort = h.side.sort; of = h.side.fits.0 }) in
      let later = refers_later p.symbols.now u v r k.term h.keeps k.refers in (
        record {
          side = record {
            sort = sorted.sort;
            term = k.term;
            refers = later;
            fits = (sorted.of, λ x free. h.side.fits.1 x (within_free x h.side.term k.term k.within free));
          };
          no_let = k.may;
        },
        (λ t a q refers part there.
            let same : t ≡ k.term = (equal_where p.symbols.now v table one r r t k.term refers later).0 refl in
            let among = subst (λ x. Contains (arguments_of x) a) same there in
            settled q (opened.arguments q (record {
              whole = k.term;
              refers = k.refers;
              part = a;
              part_refers = argument_before p.symbols.now u v parts table one h.keeps k.term a r q k.refers among part;
              is = among;
            }))),
        none_found forms r opened.unmet,
      )
    where
      settled : (q : ℕ) → IsSettled forms q ⊎ ⊥ → IsSettled forms q
      settled q (inl k) = k
      settled q (inr k) = absurd k

  -- one visit more
  pub walk_visited : LinksStay → (last : Visit) (w : TermsView) (more : List AddedStep) (new : Forms) (ys : List Visit)
      → IsWalking p u v first steps before forms root (xs ++ last ∷ []) → KeepsTerms v w → IsVisit p v w steps more forms new xs ys last
      → PlacesCellsOf p.symbols.now v.pass w.pass (IsMadeAt p.symbols.now w (visited last))
      → IsWalking p u w first more before new root ys × (turns_left p.symbols.now u ys < turns_left p.symbols.now u (xs ++ last ∷ []))
  walk_visited stay last w more new ys h keeps (was_first r same_view same_steps visit) placed =
      subst (λ (z : TermsView). IsWalking p u z first more before new root ys
      × (turns_left p.symbols.now u ys < turns_left p.symbols.now u (xs ++ Visit.Open r ∷ []))) (sym same_view)
      (subst (λ z. IsWalking p u v first z before new root ys
      × (turns_left p.symbols.now u ys < turns_left p.symbols.now u (xs ++ Visit.Open r ∷ []))) (sym same_steps)
      (walk_first p u v first steps before forms root xs r table terms parts one h stay new ys visit))
  walk_visited stay last w more new ys h keeps (was_last r x formed notes grown e) placed = (
    subst (λ zs. IsWalking p u w first more before new root zs) (sym e)
        (walk_noted p u v first steps before forms root xs (Visit.Close r) table terms parts one h stay w more new x keeps formed notes grown.block grown.units
        grown.few placed),
    subst (λ zs. turns_left p.symbols.now u zs < turns_left p.symbols.now u (xs ++ Visit.Close r ∷ [])) (sym e)
        (let b = sum_by_push (turns_at p.symbols.now u) xs (Visit.Close r) in omega (arith, b)),
  )
