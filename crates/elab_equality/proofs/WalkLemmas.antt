-- Private. Ways over the equalities of premises, and the links that say that they lead on.
use Rattle.std.proofs.Common.{◌≡◌, ◌≢◌, ◌<◌, ◌+◌, inl, inr, ℕ, Bool, true, false, not, List, [], ◌∷◌, ◌++◌, length, get_or, drop, flat_map, slice_get, Option, Some, Contains}
use Rattle.std.proofs.Common.{Ok, refl, sym, ◌∙◌, ap, subst, arith}
use Rattle.std.proofs.lemmas.List.{drop_all, drop_more, length-map, nil_from_length}
use Rattle.std.proofs.lemmas.Bool.{eq-eqb, eqb-true, true≢false}
use Rattle.std.specs.Bool.{◌==◌}
use Rattle.std.proofs.lemmas.List.Elements.{Contains-append_left, Contains-append_right}
use Rattle.std.proofs.lemmas.Option.{slice_get_within}
use Rattle.pair_pool.specs.Views.{IsOneToOne}
use Rattle.sym_table.specs.Table.{IsTable}
use Rattle.term_model.specs.Flips.{equality}
use Rattle.term_model.specs.Terms.{Term}
use Rattle.term_model.proofs.Lists.{contains_cases, contains_head, contains_none}
use Rattle.term_model.proofs.Zips.{zip_length, zip_weaken}
use Rattle.term_pool.specs.Views.{TermsView, KeepsTerms, RefersTo, ReferToAll}
use Rattle.term_pool.proofs.TermLemmas.{equal_where}
use Rattle.proof_store.specs.AddedSteps.{AddedStep}
use Rattle.proof_store.specs.declared.added.Link.{Link}
use Rattle.rule_model.specs.Congruence.{IsChain}
use Rattle.rule_model.specs.Reading.{clause_at, premises_at, premise_clauses}
use Rattle.equality_steps.specs.Blocks.{Extends}
use Rattle.equality_steps.specs.Given.{AreChained}
use Rattle.equality_steps.specs.Links.{LinkEquates, LinksSay}
use Rattle.equality_steps.specs.declared.site.Site.{Site}
use Rattle.equality_ways.specs.declared.pairs.Used.{Used}
use Rattle.equality_ways.specs.Sides.{AreSidesOfUnit}
use Rattle.equality_ways.specs.Ways.{IsWayOver, LeadsTo, turned_if}
use Rattle.equality_ways.proofs.Places.{contains_of_get, zip_get}
use Rattle.flip_steps.proofs.MemoryLemmas.{equates_later}
use Rattle.elab_equality.specs.declared.work.Work.{Work}
use Rattle.elab_equality.specs.Linked.{IsPremiseLink}
use Rattle.elab_equality.specs.Walking.{AreSidesGiven, LeadOn}
use Rattle.elab_equality.specs.Work.{AreMadeEqual, IsDone, IsWork}
use Rattle.equality_blocks.specs.Commands.{IsLiteralOfCommand, clause_of_command}
use Rattle.equality_blocks.specs.Made.{stated, paired, turned}
use Rattle.equality_blocks.specs.Pairs.{linked, equated}
use Rattle.elab_equality.proofs.LinkLemmas.{get_map, premises_later, unit_sides_later}
use Rattle.elab_equality.proofs.ShortLemmas.{map_back, zip_back}
use Rattle.elab_equality.proofs.WorkLemmas.{done_none, done_then, links_stay}

-- links that lead on stay so, and one may come behind
pub leads_later : (p : Site) (v w : TermsView) (old new : List AddedStep) → KeepsTerms v w → Extends old new → (a b : ℕ) (links : List Link)
    → LeadOn p v old a links b → LeadOn p w new a links b
leads_later p v w old new keeps more a b [] h = h
leads_later p v w old new keeps more a b (link ∷ links) (next, here, rest) =
    (next, equates_later links_stay p v w old new keeps more link a next here, leads_later p v w old new keeps more next b links rest)

pub leads_more : (p : Site) (v : TermsView) (steps : List AddedStep) (a b c : ℕ) (links : List Link) (link : Link) → LeadOn p v steps a links b
    → LinkEquates p v steps link b c → LeadOn p v steps a (links ++ link ∷ []) c
leads_more p v steps a b c [] link same h = (c, subst (λ x. LinkEquates p v steps link x c) (sym same) h, refl)
leads_more p v steps a b c (first ∷ links) link (next, here, rest) h = (next, here, leads_more p v steps next b c links link rest h)

-- links that lead from one reference to another, one or more, say a chain of equalities
module _ (p : Site) (v : TermsView) (steps : List AddedStep) (table : IsTable p.symbols.now) (one : IsOneToOne v.pass) where
  record IsSaidChain (links : List Link) (t u : Term) : Type 0 where
    pub clauses : List (List Term)
    pub say : LinksSay p v steps links clauses
    pub chain : IsChain clauses t u

  said_chain : (a b : ℕ) (links : List Link) (t u : Term) → RefersTo p.symbols.now v a t → RefersTo p.symbols.now v b u → LeadOn p v steps a links b → IsSaidChain links t u
  said_chain a b [] t u left right same = record { clauses = []; say = tt; chain = (equal_where p.symbols.now v table one a b t u left right).0 same }
  said_chain a b (link ∷ links) t u left right (next, here, rest) =
      let tail = said_chain next b links here.right u here.right_refers right rest in
      let same : here.left ≡ t = (equal_where p.symbols.now v table one a a here.left t here.left_refers left).0 refl in
      record {
        clauses = (equality here.left here.right ∷ []) ∷ tail.clauses;
        say = (here.says, tail.say);
        chain = (here.right, ap (λ x. equality x here.right ∷ []) same, tail.chain);
      }

  pub chained : (a b : ℕ) (links : List Link) (t u : Term) → RefersTo p.symbols.now v a t → RefersTo p.symbols.now v b u → links ≢ []
      → LeadOn p v steps a links b → AreChained p v steps links a b
  chained a b links t u left right some h =
      let found = said_chain a b links t u left right h in
      record {
        left = t;
        right = u;
        left_refers = left;
        right_refers = right;
        clauses = found.clauses;
        say = found.say;
        some = λ none. some (no_links links found.clauses found.say none);
        chain = found.chain;
      }
    where
      no_links : (links : List Link) (clauses : List (List Term)) → LinksSay p v steps links clauses → clauses ≡ [] → links ≡ []
      no_links [] clauses h e = refl
      no_links (l ∷ links) [] h e = absurd h
      no_links (l ∷ links) (x ∷ clauses) h e = cc

-- the premise at a place of the sides says that its sides are equal
module _ (p : Site) (v : TermsView) (sides : List (Option (ℕ × ℕ))) (given : AreSidesGiven p v sides) where
  pub used_within : (u : Used) (a b : ℕ) → LeadsTo sides u a b → u.place < length (premises_at p.proof.now p.command)
  used_within u a b leads =
      let here = slice_get_within sides u.place (Some (turned_if u.turned (a, b))) leads in
      let first = zip_length (AreSidesOfUnit p.symbols.now v) sides given.premises given.sides_are in
      let second = zip_length (ReferToAll p.symbols.now v) (premise_clauses p.proof.now p.command) given.premises given.are in
      let third = length-map (premises_at p.proof.now p.command) (clause_at p.proof.now) in
      omega (arith, here, first, second, third)

  pub used_says : (steps : List AddedStep) (place : ℕ) (q : ℕ × ℕ) (link : Link) → slice_get sides place ≡ Some (Some q) → IsPremiseLink p place link
      → LinkEquates p v steps link q.0 q.1
  used_says steps place q link leads h =
      let one = zip_get (AreSidesOfUnit p.symbols.now v) sides given.premises place (Some q) given.sides_are leads in
      let there = get_map (clause_at p.proof.now) (premises_at p.proof.now p.command) place h.premise h.there in
      let other = zip_get (ReferToAll p.symbols.now v) (premise_clauses p.proof.now p.command) given.premises place (clause_at p.proof.now h.premise) given.are there in
      let e = one.2.0 in
      let clause : other.0 ≡ equality e.0 e.1 ∷ [] = (let f : Some other.0 ≡ Some one.0 = sym other.1 ∙ one.1 in let g : other.0 ≡ one.0 = cc in g ∙ one.2.2) in
      subst (λ l. LinkEquates p v steps l q.0 q.1) (sym h.is) (record {
        left = e.0;
        right = e.1;
        left_refers = one.2.1.0;
        right_refers = one.2.1.1;
        says = record {
          names = contains_of_get (premises_at p.proof.now p.command) place h.premise h.there;
          stands = subst (ReferToAll p.symbols.now v (clause_at p.proof.now h.premise)) clause other.2;
        };
      })

  -- the equality of its sides is a literal of the command's premises
  in_flat : (f : ℕ → List ℕ) (js : List ℕ) (j r : ℕ) → Contains js j → Contains (f j) r → Contains (flat_map f js) r
  in_flat f [] j r has here = absurd (contains_none j has)
  in_flat f (k ∷ js) j r has here = elim (contains_cases k j js has) [
    | inl same ↦ Contains-append_left (f k) (flat_map f js) r (subst (λ i. Contains (f i) r) (sym same) here)
    | inr later ↦ Contains-append_right (f k) (flat_map f js) r (in_flat f js j r later here)
  ]

  one_there : (rs : List ℕ) (t : Term) → ReferToAll p.symbols.now v rs (t ∷ []) → (r : ℕ) × Contains rs r × RefersTo p.symbols.now v r t
  one_there [] t h = absurd h
  one_there (r ∷ rs) t h = (r, contains_head r rs, h.0)

  pub used_equal : (place : ℕ) (q : ℕ × ℕ) → slice_get sides place ≡ Some (Some q) → AreMadeEqual p v q.1 q.0
  used_equal place q leads =
      let one = zip_get (AreSidesOfUnit p.symbols.now v) sides given.premises place (Some q) given.sides_are leads in
      let other = zip_back (ReferToAll p.symbols.now v) (premise_clauses p.proof.now p.command) given.premises place one.0 given.are one.1 in
      let back = map_back (clause_at p.proof.now) (premises_at p.proof.now p.command) place other.0 other.1 in
      let e = one.2.0 in
      let found = one_there other.0 (equality e.0 e.1) (subst (ReferToAll p.symbols.now v other.0) one.2.2 other.2) in
      let literal : IsLiteralOfCommand p v (equality e.0 e.1) = record {
        reference = found.0;
        among =
            Contains-append_right (clause_of_command p) (flat_map (clause_at p.proof.now) (premises_at p.proof.now p.command)) found.0
            (in_flat (clause_at p.proof.now) (premises_at p.proof.now p.command) back.0 found.0
            (contains_of_get (premises_at p.proof.now p.command) place back.0 back.1) (subst (λ rs. Contains rs found.0) (sym back.2) found.1));
        refers = found.2;
      } in
      record {
        left = e.1;
        right = e.0;
        left_refers = one.2.1.1;
        right_refers = one.2.1.0;
        made = stated (equality e.1 e.0) (paired e.0 e.1 (equality e.1 e.0) (inl (linked e.0 e.1 (equated (inl literal)))) turned);
      }

-- a way, as far as it has been walked
pub record IsWalking (p : Site) (u v : TermsView) (old new : Work) (sides : List (Option (ℕ × ℕ))) (used : List Used) (from to place : ℕ) (links : List Link)
    : Type 0 where
  pub done : IsDone {X = ℕ} p u v old new place (Ok 0)
  pub here : ℕ
  pub walked : LeadOn p v new.block from links here
  pub ahead : IsWayOver sides here to (drop place used)

pub walking_none : (p : Site) (v : TermsView) (a : Work) (sides : List (Option (ℕ × ℕ))) (used : List Used) (from to : ℕ) → IsWork p v a
    → IsWayOver sides from to used → IsWalking p v v a a sides used from to 0 []
walking_none p v a sides used from to h way = record { done = done_none p v a 0 0 h; here = from; walked = refl; ahead = way }

module _ (p : Site) (u v : TermsView) (old new : Work) (sides : List (Option (ℕ × ℕ))) (used : List Used) (from to place : ℕ) (links : List Link)
    (h : IsWalking p u v old new sides used from to place links) (below : place < length used) (step : Used) (is : step ≡ get_or used place step) where
  ahead_here : IsWayOver sides h.here to (step ∷ drop (place + 1) used)
  ahead_here = subst (IsWayOver sides h.here to) (drop_more used place step below ∙ ap (λ x. x ∷ drop (place + 1) used) (sym is)) h.ahead

  pub leads_there : (a : ℕ) × (b : ℕ) × LeadsTo sides step a b
  leads_there = (h.here, ahead_here.0, ahead_here.1)

  pub walking_more : (w : TermsView) (last : Work) (link : Link) → IsDone p v w new last 1 (Ok link)
      → ((a b : ℕ) → LeadsTo sides step a b → LinkEquates p w last.block link a b)
      → IsWalking p u w old last sides used from to (place + 1) (links ++ link ∷ [])
  walking_more w last link done says = record {
    done = done_value (done_then {x = 0} {r = Ok link} (place + 1) (omega arith) h.done done);
    here = ahead_here.0;
    walked =
        leads_more p w last.block from h.here ahead_here.0 links link
        (leads_later p v w new.block last.block done.keeps done.moved.more from h.here links h.walked) (says h.here ahead_here.0 ahead_here.1);
    ahead = ahead_here.2;
  }
    where
      done_value : IsDone p u w old last (place + 1) (Ok link) → IsDone {X = ℕ} p u w old last (place + 1) (Ok 0)
      done_value k = record { keeps = k.keeps; placed = k.placed; full = tt; moved = k.moved }

-- what was read of the premises stays
pub given_sides_later : (p : Site) (v w : TermsView) → KeepsTerms v w → (sides : List (Option (ℕ × ℕ))) → AreSidesGiven p v sides → AreSidesGiven p w sides
given_sides_later p v w keeps sides h = record {
  within = h.within;
  premises = h.premises;
  are = premises_later p v w keeps h.premises h.are;
  sides_are = zip_weaken (AreSidesOfUnit p.symbols.now v) (AreSidesOfUnit p.symbols.now w) (unit_sides_later p v w keeps) sides h.premises h.sides_are;
}

-- the whole way has been walked
pub record IsWalked (p : Site) (u v : TermsView) (old new : Work) (from to used : ℕ) (links : List Link) : Type 0 where
  pub done : IsDone {X = ℕ} p u v old new used (Ok 0)
  pub walked : LeadOn p v new.block from links to

pub walking_end : (p : Site) (u v : TermsView) (old new : Work) (sides : List (Option (ℕ × ℕ))) (used : List Used) (from to place : ℕ) (links : List Link)
    → IsWalking p u v old new sides used from to place links → place ≡ length used → IsWalked p u v old new from to (length used) links
walking_end p u v old new sides used from to place links h is = record {
  done = subst (λ n. IsDone {X = ℕ} p u v old new n (Ok 0)) is h.done;
  walked =
      let last : drop place used ≡ [] = drop_all place used (omega (arith, is)) in
      let same : h.here ≡ to = subst (IsWayOver sides h.here to) last h.ahead in
      subst (LeadOn p v new.block from links) same h.walked;
}

-- a list by its length
pub empty_list : {X : Type 0} (xs : List X) → true ≡ (length xs == 0) → xs ≡ []
empty_list xs e = nil_from_length xs (eqb-true (length xs) 0 (sym e))

pub some_list : {X : Type 0} (xs : List X) → false ≡ (length xs == 0) → xs ≢ []
some_list xs e is = true≢false (sym (eq-eqb (length xs) 0 (ap length is)) ∙ sym e)

pub ends_met : (p : Site) (v : TermsView) (steps : List AddedStep) (a b : ℕ) (links : List Link) → true ≡ (length links == 0) → LeadOn p v steps a links b → a ≡ b
ends_met p v steps a b links e h = subst (λ ls. LeadOn p v steps a ls b) (empty_list links e) h

-- a test that is turned round
pub not_true : (b : Bool) → not b ≡ true → b ≡ false
not_true true e = absurd (true≢false (sym e))
not_true false e = refl

pub not_false : (b : Bool) → not b ≡ false → b ≡ true
not_false true e = refl
not_false false e = absurd (true≢false e)
