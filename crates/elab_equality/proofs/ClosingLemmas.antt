-- Private. A step by let in check mode: what it binds is linked by premises, so it is a closing step in strict mode over links.
use Rattle.std.proofs.Common.{◌≡◌, ◌<◌, ◌≤◌, ◌+◌, ◌*◌, ◌⊎◌, inl, inr, ℕ, false, List, [], ◌∷◌, ◌++◌, length, map, flat_map}
use Rattle.std.proofs.Common.{get_or, take, Option, Some, None, IsSome, All, Contains, Ok, refl, sym, ◌∙◌, ap, subst, arith}
use Rattle.std.proofs.lemmas.List.{take_all, take_more, map-append}
use Rattle.std.proofs.lemmas.List.Elements.{All-cons, All-nil, Contains-append_left, Contains-append_right}
use Rattle.std.specs.List.{AllZip}
use Rattle.std.specs.Option.{option_to_list}
use Rattle.sym_table.specs.Table.{Table}
use Rattle.term_model.proofs.Basics.{same_some}
use Rattle.term_model.proofs.Lists.{contains_cases, contains_head, contains_later, contains_none}
use Rattle.term_model.proofs.Zips.{zip_at, zip_length}
use Rattle.term_model.specs.Flips.{equality}
use Rattle.term_model.specs.FreeVariables.{bound_terms}
use Rattle.term_model.specs.Terms.{Var, Term, Bindings, no_bindings, binding, let_in}
use Rattle.term_pool.specs.Bindings.{IsBindingOf}
use Rattle.term_pool.specs.Building.{AreBindings}
use Rattle.term_pool.specs.Views.{TermsView, KeepsTerms, RefersTo, ReferToAll}
use Rattle.term_pool.proofs.TermLemmas.{equal_where}
use Rattle.proof_store.specs.AddedSteps.{AddedStep}
use Rattle.proof_store.specs.declared.added.Link.{Link}
use Rattle.rule_model.specs.declared.rules.Mode.{Mode}
use Rattle.rule_model.specs.declared.rules.Rule.{Rule}
use Rattle.rule_model.specs.declared.statuses.Status.{Status}
use Rattle.rule_model.specs.Conditions.{MeetsClosing, MeetsRule, MeetsWhere}
use Rattle.rule_model.specs.Congruence.{AreSides as AreSidesOfPremise}
use Rattle.rule_model.specs.Judged.{judged_at}
use Rattle.rule_model.specs.Proofs.{ProofItems}
use Rattle.rule_model.specs.Reading.{bindings_at, clause_at, closes_at, premises_at, premise_clauses, rule_at}
use Rattle.rule_model.specs.RuleNames.{kind_of}
use Rattle.rule_model.specs.Statuses.{IsStatusBy, kind_under}
use Rattle.rule_model.specs.Subproof.{IsLetClosing}
use Rattle.elaborator.specs.Sources.{linked_clause}
use Rattle.elaboration_laws.specs.StrictBlocks.{ClosesWith}
use Rattle.elaboration_laws.proofs.Reading.{clause_stands, closes_same, rule_same}
use Rattle.equality_steps.specs.declared.site.Site.{Site}
use Rattle.equality_steps.specs.Links.{IsLinkAt, LinksSay}
use Rattle.equality_steps.proofs.SiteLemmas.{sides_fit, sides_turned}
use Rattle.equality_steps.proofs.StepLemmas.{refer_later}
use Rattle.equality_ways.proofs.Places.{zip_contained}
use Rattle.flip_steps.specs.Memory.{IsEquatedBy}
use Rattle.flip_steps.specs.Subterms.{whole, argument}
use Rattle.equality_blocks.specs.Blocks.{IsClosingStep}
use Rattle.equality_blocks.specs.Commands.{IsToElaborate, IsLiteralOfCommand, clause_of_command, in_check_mode, rule_of_command}
use Rattle.equality_blocks.specs.Counts.{literal}
use Rattle.equality_blocks.specs.Pairs.{ArePaired, linked}
use Rattle.equality_blocks.specs.Pairs as pairs
use Rattle.equality_blocks.proofs.Growing.{items_more}
use Rattle.equality_blocks.proofs.LowLemmas.{StandForOne}
use Rattle.elab_equality.specs.Closing.{AreBound, IsPairWhereApart}
use Rattle.elab_equality.specs.declared.work.Work.{Work}
use Rattle.elab_equality.specs.Linked.{AreLinkedBy, IsInCommand, IsPair}
use Rattle.elab_equality.specs.Work.{IsDone, IsWork}
use Rattle.elab_equality.proofs.GivenLemmas.{premises_stand}
use Rattle.elab_equality.proofs.LinkLemmas.{linked_later, linked_more, linked_said, pair_later}
use Rattle.elab_equality.proofs.LiteralsHere.{literal_fits}
use Rattle.elab_equality.proofs.ReadLemmas.{IsEquation}
use Rattle.elab_equality.proofs.WorkLemmas.{done_none, done_then}

-- the command closes a scope by let
pub record IsLet (p : Site) (proof : ProofItems Var Term) : Type 0 where
  pub scope : ℕ
  pub closes : closes_at p.proof.now p.command ≡ Some scope
  pub closing : IsLetClosing Mode.Check proof p.command scope

module _ (p : Site) (v : TermsView) (h : IsToElaborate p v) (is : rule_of_command p ≡ Rule.Let) where
  rule_there : rule_at h.proof p.command ≡ Rule.Let
  rule_there = sym (rule_same p.symbols.now v p.proof.now h.proof h.stand p.command) ∙ is

  met_where : MeetsWhere Mode.Check h.proof p.command (closes_at h.proof p.command)
  met_where =
      (subst (λ r. IsStatusBy (kind_under false (kind_of r)) (in_check_mode h.assertions) h.proof p.command Status.Ok) rule_there h.ok).1

  pub is_let : IsLet p h.proof
  is_let = go (closes_at h.proof p.command) refl met_where
    where
      go : (o : Option ℕ) → closes_at h.proof p.command ≡ o → MeetsWhere Mode.Check h.proof p.command o → IsLet p h.proof
      go None e met = absurd (subst (λ r. MeetsRule r (judged_at Mode.Check h.proof p.command)) rule_there met)
      go (Some k) e met = record {
        scope = k;
        closes = closes_same p.symbols.now v p.proof.now h.proof h.stand p.command ∙ e;
        closing = subst (λ r. MeetsClosing Mode.Check r h.proof p.command k) rule_there met;
      }

  -- its clause, and the scope
  pub let_equation : IsEquation p v (let_in is_let.closing.bindings is_let.closing.body) is_let.closing.result
  let_equation =
      go (clause_of_command p) refl
      (subst (ReferToAll p.symbols.now v (clause_of_command p)) is_let.closing.clause (clause_stands p.symbols.now v p.proof.now h.proof h.stand p.command))
    where
      go : (rs : List ℕ) → clause_of_command p ≡ rs
          → ReferToAll p.symbols.now v rs (equality (let_in is_let.closing.bindings is_let.closing.body) is_let.closing.result ∷ [])
          → IsEquation p v (let_in is_let.closing.bindings is_let.closing.body) is_let.closing.result
      go [] e k = absurd k
      go (r ∷ (q ∷ rs)) e k = absurd k.1
      go (r ∷ []) e k = record { root = r; clause = e; refers = k.0 }

  pub scope_there : (o : Option ℕ) → o ≡ closes_at p.proof.now p.command → IsSome o
  scope_there o e = subst IsSome (sym (e ∙ is_let.closes)) refl

  pub scope_same : (o : Option ℕ) (k : ℕ) → o ≡ closes_at p.proof.now p.command → o ≡ Some k → k ≡ is_let.scope
  scope_same o k e there = same_some (sym there ∙ (e ∙ is_let.closes))

  pub bound_here : (values images : List ℕ) → ReferToAll p.symbols.now v values (bound_terms is_let.closing.bindings)
      → ReferToAll p.symbols.now v images (map (λ (b : Var × Term). b.1) (bindings_at h.proof is_let.scope)) → AreBound p v values images
  bound_here values images left right = record {
    proof = h.proof;
    stand = h.stand;
    scope = is_let.scope;
    closes = is_let.closes;
    closing = is_let.closing;
    values_refer = left;
    images_refer = right;
  }

-- what is bound goes on being so as more terms are known
pub bound_later : (p : Site) (u v : TermsView) → KeepsTerms u v → (values images : List ℕ) → AreBound p u values images → AreBound p v values images
bound_later p u v keeps values images x = record {
  proof = x.proof;
  stand = items_more p.symbols.now u v keeps.pass.grows p.proof.now x.proof x.stand;
  scope = x.scope;
  closes = x.closes;
  closing = x.closing;
  values_refer = refer_later p u v keeps values (bound_terms x.closing.bindings) x.values_refer;
  images_refer = refer_later p u v keeps images (map (λ (b : Var × Term). b.1) (bindings_at x.proof x.scope)) x.images_refer;
}

-- the literal of a premise is one of the command
flat_has : (f : ℕ → List ℕ) (js : List ℕ) (rs : List ℕ) (r : ℕ) → Contains (map f js) rs → Contains rs r → Contains (flat_map f js) r
flat_has f [] rs r there has = absurd (contains_none rs there)
flat_has f (j ∷ js) rs r there has = elim (contains_cases (f j) rs (map f js) there) [
  | inl same ↦ Contains-append_left (f j) (flat_map f js) r (subst (λ xs. Contains xs r) (sym same) has)
  | inr later ↦ Contains-append_right (f j) (flat_map f js) r (flat_has f js rs r later has)
]

module _ (p : Site) (v : TermsView) (h : IsToElaborate p v) where
  premise_literal : (t : Term) → Contains (premise_clauses h.proof p.command) (t ∷ []) → IsLiteralOfCommand p v t
  premise_literal t there =
      let found = zip_contained (ReferToAll p.symbols.now v) (premise_clauses p.proof.now p.command) (premise_clauses h.proof p.command) (t ∷ [])
      (premises_stand p v h) there in
      go found.0 found.1 found.2
    where
      go : (rs : List ℕ) → Contains (premise_clauses p.proof.now p.command) rs → ReferToAll p.symbols.now v rs (t ∷ []) → IsLiteralOfCommand p v t
      go [] has k = absurd k
      go (r ∷ (q ∷ rs)) has k = absurd k.1
      go (r ∷ []) has k = record {
        reference = r;
        among = Contains-append_right (clause_of_command p) (flat_map (clause_at p.proof.now) (premises_at p.proof.now p.command)) r
            (flat_has (clause_at p.proof.now) (premises_at p.proof.now p.command) (r ∷ []) r has (contains_head r []));
        refers = k.0;
      }

  -- a side of a literal stands in the command
  side_in : (x y t : Term) (a : ℕ) → IsLiteralOfCommand p v (equality x y) → RefersTo p.symbols.now v a t → Contains (x ∷ y ∷ []) t → IsInCommand p v a
  side_in x y t a k refers has = record {
    root = k.reference;
    is = literal k.among;
    stands = record { whole = equality x y; whole_refers = k.refers; term = t; refers = refers; within = argument (equality x y) t whole has };
  }

  premise_pair : (a b : ℕ) (t s : Term) → RefersTo p.symbols.now v a t → RefersTo p.symbols.now v b s
      → AreSidesOfPremise (premise_clauses h.proof p.command) t s → IsPair p v a b
  premise_pair a b t s left right (inl there) =
      let k = premise_literal (equality t s) there in
      record {
        left = t;
        right = s;
        left_refers = left;
        right_refers = right;
        left_in = side_in t s t a k left (contains_head t (s ∷ []));
        right_in = side_in t s s b k right (contains_later t s (s ∷ []) (contains_head s []));
        sides = sides_fit p t s (literal_fits p v h (equality t s) k);
        paired = inl (linked t s (pairs.equated (inl k)));
        premises = premise_clauses h.proof p.command;
        are = premises_stand p v h;
        linked = inr (inl there);
      }
  premise_pair a b t s left right (inr there) =
      let k = premise_literal (equality s t) there in
      record {
        left = t;
        right = s;
        left_refers = left;
        right_refers = right;
        left_in = side_in s t t a k left (contains_later s t (t ∷ []) (contains_head t []));
        right_in = side_in s t s b k right (contains_head s (t ∷ []));
        sides = sides_turned p s t (sides_fit p s t (literal_fits p v h (equality s t) k));
        paired = inr (linked s t (pairs.equated (inl k)));
        premises = premise_clauses h.proof p.command;
        are = premises_stand p v h;
        linked = inr (inr there);
      }

  bound_pair : (a b : ℕ) (t s : Term) → RefersTo p.symbols.now v a t → RefersTo p.symbols.now v b s
      → (t ≡ s) ⊎ AreSidesOfPremise (premise_clauses h.proof p.command) t s → IsPairWhereApart p v a b
  bound_pair a b t s left right (inl same) = λ apart. absurd (apart ((equal_where p.symbols.now v h.table h.known a b t s left right).1 same))
  bound_pair a b t s left right (inr sides) = λ apart. premise_pair a b t s left right sides

  bound_pairs : (values images : List ℕ) (ts ss : List Term) → ReferToAll p.symbols.now v values ts → ReferToAll p.symbols.now v images ss
      → AllZip (λ t s. (t ≡ s) ⊎ AreSidesOfPremise (premise_clauses h.proof p.command) t s) ts ss → AllZip (IsPairWhereApart p v) values images
  bound_pairs [] [] ts ss left right zip = tt
  bound_pairs [] (b ∷ images) [] [] left right zip = absurd right
  bound_pairs [] (b ∷ images) [] (s ∷ ss) left right zip = absurd zip
  bound_pairs [] (b ∷ images) (t ∷ ts) ss left right zip = absurd left
  bound_pairs (a ∷ values) images [] ss left right zip = absurd left
  bound_pairs (a ∷ values) [] (t ∷ ts) [] left right zip = absurd zip
  bound_pairs (a ∷ values) [] (t ∷ ts) (s ∷ ss) left right zip = absurd right
  bound_pairs (a ∷ values) (b ∷ images) (t ∷ ts) [] left right zip = absurd zip
  bound_pairs (a ∷ values) (b ∷ images) (t ∷ ts) (s ∷ ss) left right zip =
      (bound_pair a b t s left.0 right.0 zip.0, bound_pairs values images ts ss left.1 right.1 zip.1)

  pub pairs_here : StandForOne → (values images : List ℕ) → AreBound p v values images → AllZip (IsPairWhereApart p v) values images
  pairs_here one_of values images x =
      let same : x.proof ≡ h.proof = one_of p.symbols.now v p.proof.now x.proof h.proof h.table h.known x.stand h.stand in
      bound_pairs values images (bound_terms x.closing.bindings) (map (λ (b : Var × Term). b.1) (bindings_at x.proof x.scope)) x.values_refer x.images_refer
      (subst
      (λ (q : ProofItems Var Term). AllZip (λ t s. (t ≡ s) ⊎ AreSidesOfPremise (premise_clauses q p.command) t s) (bound_terms x.closing.bindings)
      (map (λ (b : Var × Term). b.1) (bindings_at x.proof x.scope)))
      same x.closing.linked)

-- what an anchor binds, and what a let does
pub images_stand : (p : Site) (v : TermsView) (bs : List (ℕ × ℕ)) (cs : List (Var × Term)) → AllZip (IsBindingOf p.symbols.now v) bs cs
    → ReferToAll p.symbols.now v (map (λ (b : ℕ × ℕ). b.1) bs) (map (λ (c : Var × Term). c.1) cs)
images_stand p v [] [] h = tt
images_stand p v [] (c ∷ cs) h = absurd h
images_stand p v (b ∷ bs) [] h = absurd h
images_stand p v (b ∷ bs) (c ∷ cs) h = (h.0.term, images_stand p v bs cs h.1)

pub images_here : (p : Site) (v : TermsView) (images : List ℕ) (bs rs : List (ℕ × ℕ)) (cs : List (Var × Term)) → AllZip (IsBindingOf p.symbols.now v) rs cs → bs ≡ rs
    → images ≡ map (λ (b : ℕ × ℕ). b.1) bs → ReferToAll p.symbols.now v images (map (λ (c : Var × Term). c.1) cs)
images_here p v images bs rs cs stand is e =
    subst (λ xs. ReferToAll p.symbols.now v xs (map (λ (c : Var × Term). c.1) cs)) (sym (e ∙ ap (map (λ (b : ℕ × ℕ). b.1)) is)) (images_stand p v rs cs stand)

pub images_more : (bs : List (ℕ × ℕ)) (k : ℕ) (b : ℕ × ℕ) → k < length bs → b ≡ get_or bs k b
    → map (λ (x : ℕ × ℕ). x.1) (take (k + 1) bs) ≡ map (λ (x : ℕ × ℕ). x.1) (take k bs) ++ b.1 ∷ []
images_more bs k b below is =
    ap (map (λ (x : ℕ × ℕ). x.1)) (take_more bs k b below ∙ ap (λ y. take k bs ++ y ∷ []) (sym is)) ∙ map-append (λ (x : ℕ × ℕ). x.1) (take k bs) (b ∷ [])

pub bound_values : (s : Table) (v : TermsView) (ks rs : List ℕ) (bs : Bindings) → AreBindings s v ks rs bs → ReferToAll s v rs (bound_terms bs)
bound_values s v [] [] no_bindings h = tt
bound_values s v [] [] (binding x t bs) h = absurd h
bound_values s v [] (r ∷ rs) bs h = absurd h
bound_values s v (k ∷ ks) [] bs h = absurd h
bound_values s v (k ∷ ks) (r ∷ rs) no_bindings h = absurd h
bound_values s v (k ∷ ks) (r ∷ rs) (binding x t bs) h = (h.1, bound_values s v ks rs bs h.2)

-- links, as far as what is bound has been linked
pub record IsBinding (p : Site) (u v : TermsView) (old new : Work) (values images : List ℕ) (place : ℕ) (links : List Link) : Type 0 where
  pub done : IsDone {X = ℕ} p u v old new (2 * place) (Ok 0)
  pub linked : AreLinkedBy p v new.block (take place values) (take place images) links

pub binding_none : (p : Site) (v : TermsView) (a : Work) (values images : List ℕ) → IsWork p v a → IsBinding p v v a a values images 0 []
binding_none p v a values images h = record { done = done_none p v a (2 * 0) 0 h; linked = refl }

module _ (p : Site) (u : TermsView) (values images : List ℕ) (pairs : AllZip (IsPairWhereApart p u) values images) (place : ℕ) (below : place < length values) where
  pub image_below : place < length images
  image_below = let same = zip_length (IsPairWhereApart p u) values images pairs in omega (arith, same, below)

  pub bound_at : (v : TermsView) (old new : Work) (links : List Link) (a b : ℕ) → IsBinding p u v old new values images place links → a ≡ get_or values place a
      → b ≡ get_or images place b → IsPairWhereApart p v a b
  bound_at v old new links a b h left right =
      λ apart. pair_later p u v h.done.keeps a b
      (subst (λ x. IsPairWhereApart p u x b) (sym left)
      (subst (λ y. IsPairWhereApart p u (get_or values place a) y) (sym right) (zip_at (IsPairWhereApart p u) values images place a b pairs below)) apart)

  pub binding_more : (v w : TermsView) (old mid new : Work) (links : List Link) (a b : ℕ) (o : Option Link) → IsBinding p u v old mid values images place links
      → a ≡ get_or values place a → b ≡ get_or images place b → IsDone p v w mid new 2 (Ok o) → IsEquatedBy p w new.block o a b
      → IsBinding p u w old new values images (place + 1) (links ++ option_to_list o)
  binding_more v w old mid new links a b o h left right done said = record {
    done = done_value (done_then {x = 0} {r = Ok o} (2 * (place + 1)) (omega arith) h.done done);
    linked =
        let first : take (place + 1) values ≡ take place values ++ a ∷ [] = take_more values place a below ∙ ap (λ x. take place values ++ x ∷ []) (sym left) in
        let second : take (place + 1) images ≡ take place images ++ b ∷ [] = take_more images place b image_below ∙ ap (λ x. take place images ++ x ∷ []) (sym right) in
        subst (λ xs. AreLinkedBy p w new.block xs (take (place + 1) images) (links ++ option_to_list o)) (sym first)
        (subst (λ ys. AreLinkedBy p w new.block (take place values ++ a ∷ []) ys (links ++ option_to_list o)) (sym second)
        (linked_more p w new.block (take place values) (take place images) links a b o
        (linked_later p v w mid.block new.block done.keeps done.moved.more (take place values) (take place images) links h.linked) said));
  }
    where
      done_value : IsDone p u w old new (2 * (place + 1)) (Ok o) → IsDone {X = ℕ} p u w old new (2 * (place + 1)) (Ok 0)
      done_value k = record { keeps = k.keeps; placed = k.placed; full = tt; moved = k.moved }

-- all of them
pub binding_whole : (p : Site) (u v : TermsView) (old new : Work) (values images : List ℕ) (place : ℕ) (links : List Link)
    → AllZip (IsPairWhereApart p u) values images → length values ≤ place → IsBinding p u v old new values images place links
    → AreLinkedBy p v new.block values images links
binding_whole p u v old new values images place links pairs past h =
    let same = zip_length (IsPairWhereApart p u) values images pairs in
    subst (λ xs. AreLinkedBy p v new.block xs images links) (take_all place values past)
    (subst (λ ys. AreLinkedBy p v new.block (take place values) ys links) (take_all place images (omega (arith, same, past))) h.linked)

-- the closing step over these links
module _ (p : Site) (v : TermsView) (h : IsToElaborate p v) (one_of : StandForOne) where
  links_named : (steps : List AddedStep) (links : List Link) (clauses : List (List Term)) → LinksSay p v steps links clauses → All (IsLinkAt p (length steps)) links
  links_named steps [] [] say = All-nil (IsLinkAt p (length steps))
  links_named steps [] (c ∷ clauses) say = absurd say
  links_named steps (l ∷ links) [] say = absurd say
  links_named steps (l ∷ links) (c ∷ clauses) say = All-cons (IsLinkAt p (length steps)) l links say.0.names (links_named steps links clauses say.1)

  links_stand : (steps : List AddedStep) (links : List Link) (clauses : List (List Term)) → LinksSay p v steps links clauses
      → AllZip (ReferToAll p.symbols.now v) (map (linked_clause p.proof.now steps) links) clauses
  links_stand steps [] [] say = tt
  links_stand steps [] (c ∷ clauses) say = absurd say
  links_stand steps (l ∷ links) [] say = absurd say
  links_stand steps (l ∷ links) (c ∷ clauses) say = (say.0.stands, links_stand steps links clauses say.1)

  pub closing_step : (values images : List ℕ) (x : AreBound p v values images) (steps : List AddedStep) (links : List Link) → AreLinkedBy p v steps values images links
      → IsClosingStep p v h steps (record { rule = Rule.Let; clause = clause_of_command p; premises = links; pivots = [] })
  closing_step values images x steps links joined =
      let said = linked_said p v steps h.table h.known values images links (bound_terms x.closing.bindings)
      (map (λ (b : Var × Term). b.1) (bindings_at x.proof x.scope)) x.values_refer x.images_refer joined in
      let same : x.proof ≡ h.proof = one_of p.symbols.now v p.proof.now x.proof h.proof h.table h.known x.stand h.stand in
      record {
        rule = refl;
        clause = refl;
        pivots = refl;
        links = links_named steps links said.clauses said.say;
        premises = said.clauses;
        stand = links_stand steps links said.clauses said.say;
        scope = x.scope;
        closes = x.closes;
        closing = subst (λ (q : ProofItems Var Term). ClosesWith Rule.Let said.clauses q p.command x.scope) same (x.closing, said.differences);
      }
