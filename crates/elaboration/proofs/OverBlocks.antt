-- Steps in the place of a command that is no resolution are over the vocabularies of the proof.
use Rattle.std.proofs.Common.{◌≡◌, ◌<◌, ◌≤◌, ◌-◌, ◌⊎◌, inl, inr, ℕ, zero, suc, Bool, true, false, not, List, [], ◌∷◌, ◌++◌, map, length, slice_get, Option, Some, refl, sym, ◌∙◌, ap, subst}
use Rattle.std.proofs.Common.{arith, All, Contains, ◌↔◌}
use Rattle.std.specs.List.{AllZip, AllByRecursion}
use Rattle.std.specs.Option.{option_map_or}
use Rattle.std.proofs.lemmas.List.Elements.{All-contains, All-head, All-tail}
use Rattle.std.proofs.lemmas.Option.{slice_get_within}
use Rattle.pair_pool.specs.Views.{IsOneToOne}
use Rattle.sym_table.specs.Table.{Table, IsTable}
use Rattle.term_model.proofs.Lists.{contains_head, contains_later, nth_there}
use Rattle.term_model.specs.declared.symbols.Sort.{Sort}
use Rattle.term_model.specs.Terms.{Var, Term, not_of}
use Rattle.term_pool.proofs.OneTerm.{one_term}
use Rattle.term_pool.proofs.TermLemmas.{equal_where}
use Rattle.term_pool.specs.Views.{TermsView, RefersTo, ReferToAll}
use Rattle.proof_store.specs.AddedSteps.{AddedStep}
use Rattle.proof_store.specs.Meaning.{IsPivotOf, StandForItems}
use Rattle.proof_store.specs.declared.added.Link.{Link}
use Rattle.rule_model.proofs.Lines.{get_append, get_one}
use Rattle.rule_model.specs.declared.rules.Mode.{Mode}
use Rattle.rule_model.specs.declared.rules.Rule.{Rule}
use Rattle.rule_model.specs.declared.statuses.Status.{Status}
use Rattle.rule_model.specs.Conditions.{MeetsRule}
use Rattle.rule_model.specs.Contexts.{AreAnchorsNested, IsClosedUnder, images}
use Rattle.rule_model.specs.Judged.{anchors_at, open_anchors}
use Rattle.rule_model.specs.Proofs.{ProofItems}
use Rattle.rule_model.specs.Reading.{clause_at, closes_at, premises_at}
use Rattle.rule_model.specs.Replacement.{Replacement}
use Rattle.rule_model.specs.Resolution.{Joins, JoinAll, Resolves, sides_of, with_sign}
use Rattle.rule_model.specs.Scopes.{Nesting, commands_in}
use Rattle.rule_model.specs.Substitution.{AreClosed}
use Rattle.rule_model.specs.WellFormed.{IsWellFormed}
use Rattle.elaborator.specs.Sources.{linked_clause, own_anchors}
use Rattle.elaboration_laws.specs.StrictBlocks.{AnchorsStand}
use Rattle.elaboration_laws.proofs.Anchors.{own_list}
use Rattle.elaboration_laws.proofs.Ones.{one_anchors, one_clause, one_pivots}
use Rattle.elaboration_laws.proofs.Reading.{clause_stands, closes_same, premises_same}
use Rattle.readable_proofs.specs.Names.{Vocabulary}
use Rattle.readable_proofs.specs.ProofsOver.{IsTermIn, IsPivotIn, IsProofOver}
use Rattle.readable_proofs.specs.TermsOver.{IsTermOver}
use Rattle.equality_steps.specs.Blocks.{IsBlockAt, IsStepAt}
use Rattle.equality_steps.specs.Links.{IsLinkAt}
use Rattle.equality_steps.specs.Sites.{IsClosedAt, IsLiteralAt}
use Rattle.equality_steps.specs.declared.site.Site.{Site}
use Rattle.equality_blocks.specs.Blocks.{IsBlockFor, IsClosingBlockFor, IsReplacementFor}
use Rattle.equality_blocks.specs.Commands.{IsLiteralOfCommand, IsToElaborate, clause_of_command}
use Rattle.equality_blocks.specs.Made.{IsMadeFor, IsMadeStep, StandsForMade}
use Rattle.equality_blocks.proofs.LiteralLemmas.{formed_terms, literal_there, own_anchors_stand}
use Rattle.elaboration.specs.Replaced.{IsRelinking}
use Rattle.elaboration.proofs.OverLines.{AreDeep, IsOverAt, over_at}
use Rattle.elaboration.proofs.OverMade.{FormsAreEqual, PutInIsOver, made_over}
use Rattle.elaboration.proofs.OverNear.{NegationsAreOver, below_not, literal_over, premise_over}
use Rattle.elaboration.proofs.OverSteps.{IsBlockOver}
use Rattle.elaboration.proofs.Relinked.{Replace, steps_now}
use Rattle.elaboration.proofs.Sites.{of_site, to_site}
use Rattle.elaboration.proofs.Whole.{StandForOne}

-- laws of `equality_steps`, `flip_steps`, `readable_proofs` and `rule_model`
pub record OverLaws : Type 0 where
  pub closed : (p : Site) (v : TermsView) (anchors : List (List (Var × Term))) (t : Term) →
      AnchorsStand p.symbols.now v (own_anchors p.proof.now p.command) anchors → IsClosedAt p t ↔ IsClosedUnder anchors t
  pub forms : FormsAreEqual
  pub put_in : PutInIsOver
  pub images_over : (n : Vocabulary) (anchors : List Replacement) → AreAnchorsNested anchors →
      AllByRecursion (λ anchor. AllByRecursion (λ b. IsTermOver n b.1) anchor) anchors → AllByRecursion (λ b. IsTermOver n b.1) (images anchors)
  pub images_closed : (anchors : List Replacement) → AreAnchorsNested anchors → AreClosed (images anchors)

-- what is so of each term for which one of some references stands
each_in : (P : Term → Type 0) (s : Table) (v : TermsView) (rs : List ℕ) (ts : List Term) → ReferToAll s v rs ts
    → ((r : ℕ) (t : Term) → Contains rs r → Contains ts t → RefersTo s v r t → P t) → AllByRecursion P ts
each_in P s v [] [] h f = tt
each_in P s v [] (t ∷ ts) h f = absurd h
each_in P s v (r ∷ rs) [] h f = absurd h
each_in P s v (r ∷ rs) (t ∷ ts) h f = (
  f r t (contains_head r rs) (contains_head t ts) h.0,
  each_in P s v rs ts h.1 (λ q u a b. f q u (contains_later r q rs a) (contains_later t u ts b)),
)

get_before : {X : Type 0} (xs ys : List X) (k : ℕ) (x : X) → slice_get xs k ≡ Some x → slice_get (xs ++ ys) k ≡ Some x
get_before [] ys k x e = absurd (cc)
get_before (y ∷ xs) ys zero x e = e
get_before (y ∷ xs) ys (suc k) x e = get_before xs ys k x e

module _ (n : Vocabulary) (m : Nesting Var Term) where
  no_pivots_in : (s : Table) (w : TermsView) (ps : List (Term × Bool)) → AllZip (IsPivotOf s w) [] ps → AllByRecursion (λ (q : Term × Bool). IsPivotIn n m q.0) ps
  no_pivots_in s w [] h = tt
  no_pivots_in s w (q ∷ qs) h = absurd h

  abbrev pub AreIn : List Term → Type 0
  AreIn ts = AllByRecursion (λ t. IsTermIn n m t Sort.Bool) ts

  pivot_in : (t : Term) (b : Bool) → IsTermIn n m (with_sign t b) Sort.Bool → IsPivotIn n m t
  pivot_in t true h = record { sort = Sort.Bool; is = h }
  pivot_in t false h = below_not n m t Sort.Bool h

  -- each pivot of a chain stands, with a sign, in one of its clauses
  joined_in : (clause : List Term) (clauses : List (List Term)) (pivots : List (Term × Bool)) (result : List Term)
      → Joins clause clauses (map sides_of pivots) result → AllByRecursion AreIn clauses → AllByRecursion (λ (q : Term × Bool). IsPivotIn n m q.0) pivots
  joined_in clause clauses [] result j h = tt
  joined_in clause [] (q ∷ pivots) result j h = absurd j
  joined_in clause (c ∷ clauses) (q ∷ pivots) result (next, one, more) h = (
    pivot_in q.0 (not q.1) (literal_over n m c (with_sign q.0 (not q.1)) h.0 one.on_right),
    joined_in next clauses pivots result more h.1,
  )

  chain_in : (clauses : List (List Term)) (pivots : List (Term × Bool)) (result : List Term) → JoinAll (map sides_of pivots) clauses result
      → AllByRecursion AreIn clauses → AllByRecursion (λ (q : Term × Bool). IsPivotIn n m q.0) pivots
  chain_in [] pivots result j h = absurd j
  chain_in (c ∷ clauses) pivots result j h = joined_in c clauses pivots result j h.1

module _ (laws : OverLaws) (negations : NegationsAreOver) (n : Vocabulary) (p : Site) (w : TermsView) (job : IsToElaborate p w)
    (less : p.command < commands_in job.proof) (is_over : IsProofOver n job.proof) where
  abbrev pub here : IsOverAt n job.proof p.command
  here = over_at n job.proof p.command less is_over

  abbrev pub m : Nesting Var Term
  m = here.nesting

  formed : IsWellFormed job.proof
  formed = formed_terms p w job

  given_in : (j : ℕ) → Contains (premises_at job.proof p.command) j → (t : Term) → Contains (clause_at job.proof j) t → IsTermIn n m t Sort.Bool
  given_in j has t literal = premise_over n negations job.proof formed is_over p.command less j has t literal

  literal_in : (t : Term) → IsLiteralOfCommand p w t → IsTermIn n m t Sort.Bool
  literal_in t k = elim (literal_there p w job t k) [
    | inl own ↦ literal_over n m (clause_at job.proof p.command) t here.clause own
    | inr given ↦ given_in given.0 given.1 t given.2
  ]

  abbrev pub bound : List (List (Var × Term))
  bound = own_list (closes_at p.proof.now p.command) (anchors_at job.proof p.command)

  opened : open_anchors m ≡ bound
  opened =
      here.opens
      ∙ ap (λ (o : Option ℕ). own_list o (anchors_at job.proof p.command)) (sym (closes_same p.symbols.now w p.proof.now job.proof job.stand p.command))

  anchors_in : (anchors : List (List (Var × Term))) → AnchorsStand p.symbols.now w (own_anchors p.proof.now p.command) anchors
      → AreClosed (images anchors) × AllByRecursion (λ b. IsTermOver n b.1) (images anchors)
  anchors_in anchors stand =
      let same = one_anchors p.symbols.now w job.known (one_term p.symbols.now job.table) (own_anchors p.proof.now p.command) bound anchors
      (own_anchors_stand p w job) stand in
      let deep = subst (AreDeep n) (opened ∙ same) here.deep in
      (laws.images_closed anchors deep.nested, laws.images_over n anchors deep.nested deep.terms)

  made_in : (t : Term) → IsMadeFor p w t → IsLiteralAt p t → IsTermIn n m t Sort.Bool
  made_in t made literal = record {
    of = made_over n laws.forms laws.put_in p w job.table job.known (λ u k. (literal_in u k).of) anchors_in t made;
    sorted = literal.0;
    closed = subst (λ xs. IsClosedUnder xs t) (sym opened) ((laws.closed p w bound t (own_anchors_stand p w job)).0 literal.1);
  }

  module _ (steps : List AddedStep) where
    clause_in : (number : ℕ) (a : AddedStep) → IsStepAt p w steps number a → IsMadeStep p w a → (ts : List Term)
        → ReferToAll p.symbols.now w a.clause ts → AreIn n m ts
    clause_in number a step made ts refer =
        let same = one_clause p.symbols.now w job.known (one_term p.symbols.now job.table) a.clause step.judged.clause ts step.stands.clause refer in
        let fits = subst (All (IsLiteralAt p)) same step.literals in
        each_in (λ t. IsTermIn n m t Sort.Bool) p.symbols.now w a.clause ts refer
        (λ r t has among refers.
        let stands = made.literals r has in
        let term_same = (equal_where p.symbols.now w job.table job.known r r stands.term t stands.refers refers).0 refl in
        made_in t (subst (IsMadeFor p w) term_same stands.made) (All-contains (IsLiteralAt p) ts t fits among))

    module _ (each : (k : ℕ) (b : AddedStep) → slice_get steps k ≡ Some b → IsStepAt p w steps k b)
        (made : (k : ℕ) (b : AddedStep) → slice_get steps k ≡ Some b → IsMadeStep p w b) (number : ℕ) (a : AddedStep) (at : slice_get steps number ≡ Some a) where
      link_in : (l : Link) → IsLinkAt p number l → (ts : List Term) → ReferToAll p.symbols.now w (linked_clause p.proof.now steps l) ts → AreIn n m ts
      link_in (Link.Old j) names ts refer =
          let has = subst (λ js. Contains js j) (premises_same p.symbols.now w p.proof.now job.proof job.stand p.command) names in
          let same = one_clause p.symbols.now w job.known (one_term p.symbols.now job.table) (clause_at p.proof.now j) (clause_at job.proof j) ts
          (clause_stands p.symbols.now w p.proof.now job.proof job.stand j) refer in
          each_in (λ t. IsTermIn n m t Sort.Bool) p.symbols.now w (clause_at p.proof.now j) ts refer
          (λ r t from among refers. given_in j has t (subst (λ xs. Contains xs t) (sym same) among))
      link_in (Link.New k) below ts refer =
          let within = slice_get_within steps number a at in
          let found = nth_there steps k (omega arith) in
          clause_in k found.0 (each k found.0 found.1) (made k found.0 found.1) ts
          (subst (λ o. ReferToAll p.symbols.now w (option_map_or (λ (b : AddedStep). b.clause) o []) ts) found.1 refer)

      links_in : (ls : List Link) (tss : List (List Term)) → All (IsLinkAt p number) ls
          → AllZip (ReferToAll p.symbols.now w) (map (linked_clause p.proof.now steps) ls) tss → AllByRecursion (AreIn n m) tss
      links_in [] [] all h = tt
      links_in [] (ts ∷ tss) all h = absurd h
      links_in (l ∷ ls) [] all h = absurd h
      links_in (l ∷ ls) (ts ∷ tss) all h = (
        link_in l (All-head (IsLinkAt p number) l ls all) ts h.0,
        links_in ls tss (All-tail (IsLinkAt p number) l ls all) h.1,
      )

      no_pivots : (ps : List (Term × Bool)) → a.pivots ≡ [] → AllZip (IsPivotOf p.symbols.now w) a.pivots ps
          → AllByRecursion (λ (q : Term × Bool). IsPivotIn n m q.0) ps
      no_pivots ps e h = no_pivots_in n m p.symbols.now w ps (subst (λ qs. AllZip (IsPivotOf p.symbols.now w) qs ps) e h)

      abbrev pub step : IsStepAt p w steps number a
      step = each number a at

      resolved_in : a.rule ≡ Rule.Resolution → MeetsRule step.judged.rule step.judged → (ps : List (Term × Bool))
          → AllZip (IsPivotOf p.symbols.now w) a.pivots ps → AllByRecursion (λ (q : Term × Bool). IsPivotIn n m q.0) ps
      resolved_in e met ps refer =
          let j = step.judged in
          let is : j.rule ≡ Rule.Resolution = sym step.stands.rule ∙ e in
          let chain : Resolves j.mode j.pivots j.premises j.clause = subst (λ r. MeetsRule r j) is met in
          let same = one_pivots p.symbols.now w job.known (one_term p.symbols.now job.table) a.pivots j.pivots ps step.stands.pivots refer in
          subst (AllByRecursion (λ (q : Term × Bool). IsPivotIn n m q.0)) same
          (chain_in n m j.premises j.pivots j.clause (subst (λ mode. Resolves mode j.pivots j.premises j.clause) step.strict chain)
          (links_in a.premises j.premises step.links step.stands.premises))

      pub step_in : (ts : List Term) (ps : List (Term × Bool)) → ReferToAll p.symbols.now w a.clause ts → AllZip (IsPivotOf p.symbols.now w) a.pivots ps
          → AreIn n m ts × AllByRecursion (λ (q : Term × Bool). IsPivotIn n m q.0) ps
      step_in ts ps clause pivots = (
        clause_in number a step (made number a at) ts clause,
        elim step.done [
          | inl met ↦ elim met.pivots [ inl e ↦ resolved_in e met.met ps pivots | inr e ↦ no_pivots ps e pivots ]
          | inr assumption ↦ no_pivots ps assumption.pivots pivots
        ],
      )

  block_in : (block : List AddedStep) → IsBlockFor p w block → IsBlockOver p.symbols.now w n m block
  block_in block h number a at ts ps clause pivots = step_in block h.steps.each h.made number a at ts ps clause pivots

  -- the step that closes a scope has the literals of the command
  closing_in : (block : List AddedStep) → IsClosingBlockFor p w block → IsBlockOver p.symbols.now w n m block
  closing_in block h number a at ts ps clause pivots =
      go (get_append h.before (h.last ∷ []) number a (subst (λ b. slice_get b number ≡ Some a) h.is at))
    where
      left_get : (k : ℕ) (b : AddedStep) → slice_get h.before k ≡ Some b → slice_get block k ≡ Some b
      left_get k b e = subst (λ xs. slice_get xs k ≡ Some b) (sym h.is) (get_before h.before (h.last ∷ []) k b e)

      go : ((number < length h.before) × (slice_get h.before number ≡ Some a))
          ⊎ ((length h.before ≤ number) × (slice_get (h.last ∷ []) (number - length h.before) ≡ Some a))
          → AreIn n m ts × AllByRecursion (λ (q : Term × Bool). IsPivotIn n m q.0) ps
      go (inl first) =
          step_in h.before h.steps.each (λ k b e. h.made k b (left_get k b e)) number a first.1 ts ps clause pivots
      go (inr last) =
          let is : h.last ≡ a = (get_one h.last (number - length h.before) a last.1).1 in
          let here_clause : a.clause ≡ clause_of_command p = ap (λ (b : AddedStep). b.clause) (sym is) ∙ h.closing.clause in
          let none : a.pivots ≡ [] = ap (λ (b : AddedStep). b.pivots) (sym is) ∙ h.closing.pivots in
          let same = one_clause p.symbols.now w job.known (one_term p.symbols.now job.table) (clause_of_command p) (clause_at job.proof p.command) ts
          (clause_stands p.symbols.now w p.proof.now job.proof job.stand p.command)
          (subst (λ rs. ReferToAll p.symbols.now w rs ts) here_clause clause) in (
            subst (AreIn n m) same here.clause,
            no_pivots_in n m p.symbols.now w ps (subst (λ qs. AllZip (IsPivotOf p.symbols.now w) qs ps) none pivots),
          )

  pub site_over : (block : List AddedStep) → IsReplacementFor p w block → IsBlockOver p.symbols.now w n m block
  site_over block (inl h) = block_in block h
  site_over block (inr h) = closing_in block h

job_of : (p : Site) (w : TermsView) (block : List AddedStep) → IsReplacementFor p w block → IsToElaborate p w
job_of p w block (inl h) = h.command
job_of p w block (inr h) = h.command

pub relinked_over : OverLaws → NegationsAreOver → StandForOne → Replace IsReplacementFor → (s : Table) (table : IsTable s) (w : TermsView) (known : IsOneToOne w.pass)
    (asserted : List ℕ) (refs : ProofItems ℕ ℕ) (strict : List Status) (proof : ProofItems Var Term) → StandForItems s w refs proof
    → (n : Vocabulary) (is_over : IsProofOver n proof) (i : ℕ) (block : List AddedStep) (less : i < commands_in proof)
    → IsRelinking s w asserted refs strict i block → IsBlockOver s w n (over_at n proof i less is_over).nesting block
relinked_over laws negations one replace s table w known asserted refs strict proof stand n is_over i block less h =
    let p = h.site in
    let steps = steps_now replace s w known asserted refs strict i block h in
    let job = job_of p w block steps in
    let same : job.proof ≡ proof =
    one p.symbols.now w p.proof.now job.proof proof job.table known job.stand
    (to_site (λ z a r k. StandForItems z w r proof) s asserted refs i p h.is_site stand) in
    of_site (λ z a r k. (below : k < commands_in proof) → IsBlockOver z w n (over_at n proof k below is_over).nesting block) s asserted refs i p h.is_site
    (λ below.
    subst (λ q. (b : p.command < commands_in q) (o : IsProofOver n q) → IsBlockOver p.symbols.now w n (over_at n q p.command b o).nesting block) same
    (λ b o. site_over laws negations n p w job b o block steps) below is_over) less
