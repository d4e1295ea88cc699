-- Private. What an assume takes from the assertions.
use Rattle.std.proofs.Common.{◌≡◌, ◌<◌, ◌+◌, inl, inr, ℕ, zero, suc, false, List, [], ◌∷◌, ◌++◌, take, drop, get_or, length, flat_map, slice_get, Option, Some, None, IfSome, IfNone, Any, Contains}
use Rattle.std.proofs.Common.{refl, sym, ◌∙◌, ap, subst, arith}
use Rattle.std.proofs.lemmas.Bool.{true≢false}
use Rattle.std.proofs.lemmas.List.{drop_more, take-append-drop}
use Rattle.std.proofs.lemmas.List.Elements.{All-contains, Contains-append_left, Contains-append_right}
use Rattle.std.proofs.lemmas.Option.{slice_get_read}
use Rattle.term_model.proofs.Basics.{same_some}
use Rattle.term_model.proofs.Lists.{contains_cases, contains_head, contains_none, nth_there}
use Rattle.term_model.specs.Flips.{EqualUpToFlips}
use Rattle.term_model.specs.Terms.{Term, not_of}
use Rattle.term_pool.specs.Views.{TermsView, IsTerm, KeepsTerms, RefersTo, ReferToAll}
use Rattle.flip_keys.specs.Assertions.{IsFirstLike}
use Rattle.flip_keys.proofs.FirstPlaces.{term_there}
use Rattle.rule_model.specs.declared.rules.Mode.{Mode}
use Rattle.rule_model.specs.declared.rules.Rule.{Rule}
use Rattle.rule_model.specs.declared.statuses.Status.{Status}
use Rattle.rule_model.specs.Commands.{IndexedCommand, assume, step, closing, lines_in, closed_scope}
use Rattle.rule_model.specs.Proofs.{ProofItems}
use Rattle.rule_model.specs.Reading.{clause_at, clause_of, closes_at, is_assume, premises_at, rule_at, rule_of}
use Rattle.rule_model.specs.Scopes.{Nesting, outermost, inside, Scope, at}
use Rattle.rule_model.specs.Statuses.{IsAsserted, IsStatusBy, MayAssume, kind_of_rule}
use Rattle.rule_model.specs.Writing.{MayAddHere}
use Rattle.rule_model.proofs.LineReading.{clause_is, closes_is, rule_is}
use Rattle.rule_model.proofs.Numbers.{lines_in_count}
use Rattle.rule_model.proofs.RuleWords.{named_no_assume}
use Rattle.rule_model.proofs.Standing.{command_may}
use Rattle.elaboration_laws.proofs.Reading.{clause_stands, rule_same, scope_same}
use Rattle.equality_steps.specs.declared.site.Site.{Site}
use Rattle.equality_steps.specs.Sites.{IsLiteralAt}
use Rattle.flip_steps.specs.Subterms.{whole}
use Rattle.flip_steps.proofs.OrderLemmas.{refers_later}
use Rattle.equality_blocks.specs.Commands.{IsToElaborate, IsClosedTruth, IsLiteralOfCommand, clause_of_command, in_check_mode, literals_of_command, rule_of_command}
use Rattle.equality_blocks.specs.Counts.{asserted as root_asserted, literal as root_literal}
use Rattle.equality_blocks.specs.Made.{denied as made_denied, left as pair_left, literal as made_literal, paired as made_paired, stated as made_stated}
use Rattle.equality_blocks.specs.Pairs.{ArePaired, IsFirstAsserted, assumed as linked_assumed, linked as pair_linked}
use Rattle.equality_blocks.proofs.LiteralLemmas.{referred_among}
use Rattle.equality_blocks.proofs.StayLemmas.{made_later}
use Rattle.elab_equality.specs.Assuming.{AreMadeLiterals, IsAssumedBy, IsDeniable, MayBeAsserted}
use Rattle.elab_equality.specs.Linked.{AreFlips}
use Rattle.elab_equality.specs.Walking.{HasOneLiteral}
use Rattle.elab_equality.proofs.LiteralTerms.{literal_term, refers_there}
use Rattle.elab_equality.proofs.LiteralsHere.{literal_fits}

-- what is told of a place that is found, and of none
pub told_some : (P : ℕ → Type 0) (found : Option ℕ) (place : ℕ) → found ≡ Some place → IfSome found P → P place
told_some P None place e h = absurd (cc)
told_some P (Some n) place e h = subst P (same_some e) h

pub told_none : (A : Type 0) (found : Option ℕ) → found ≡ None → IfNone found A → A
told_none A None e h = h
told_none A (Some n) e h = absurd (cc)

-- an item before a place
before_there : (xs : List ℕ) (k q : ℕ) → Contains (take k xs) q → (n : ℕ) × (n < k) × (slice_get xs n ≡ Some q)
before_there xs zero q has = absurd (contains_none q has)
before_there [] (suc k) q has = absurd (contains_none q has)
before_there (x ∷ xs) (suc k) q has = elim (contains_cases x q (take k xs) has) [
  | inl same ↦ (0, omega arith, ap Some same)
  | inr later ↦ (let n = before_there xs k q later in let below = n.1 in (suc n.0, omega arith, n.2))
]

-- an assume has one literal, and closes nothing
pub record IsAssume (p : Site) : Type 0 where
  pub one : HasOneLiteral p
  pub closes : closes_at p.proof.now p.command ≡ None

module _ (p : Site) (v : TermsView) (h : IsToElaborate p v) (rule : rule_of_command p ≡ Rule.Assume) where
  no_step : (r : Rule) (word : List ℕ) → rule_at p.proof.now p.command ≡ r → is_assume r ≡ false → ⊥
  no_step r word is other = true≢false (sym (ap is_assume rule) ∙ (ap is_assume is ∙ other))

  assume_line : (scope : Scope ℕ ℕ) (command : IndexedCommand ℕ) → MayAddHere scope command → rule_at p.proof.now p.command ≡ rule_of command
      → clause_at p.proof.now p.command ≡ clause_of command → closes_at p.proof.now p.command ≡ closed_scope scope.nesting command → IsAssume p
  assume_line scope (assume id t) may is clause closes = record { one = record { literal = t; clause = clause }; closes = closes }
  assume_line scope (step s) may is clause closes = absurd (no_step s.rule s.rule_name is (ap is_assume may.rule.named ∙ named_no_assume s.rule_name))
  assume_line scope (closing s) may is clause closes = close scope.nesting scope.items may
    where
      close : (n : Nesting ℕ ℕ) (items : ProofItems ℕ ℕ) → MayAddHere (at n items) (closing s) → IsAssume p
      close outermost items may = absurd may
      close (inside around before anchor) items may = absurd (no_step s.rule s.rule_name is (ap is_assume may.rule.named ∙ named_no_assume s.rule_name))

  pub assume_is : IsAssume p
  assume_is =
      let within = h.within in
      let count = lines_in_count outermost p.proof.now in
      let line = nth_there (lines_in outermost p.proof.now) p.command (omega (arith, within, count)) in
      assume_line line.0.scope line.0.command (command_may p.proof.now p.command line.0 h.formed line.1) (rule_is p.proof.now p.command line.0 line.1)
      (clause_is p.proof.now p.command line.0 line.1) (closes_is p.proof.now p.command line.0 line.1)

  -- its term is asserted, up to flips
  may_assume : MayAssume (in_check_mode h.assertions) h.proof p.command
  may_assume =
      subst (λ r. IsStatusBy (kind_of_rule (in_check_mode h.assertions) r) (in_check_mode h.assertions) h.proof p.command Status.Ok)
      (sym (rule_same p.symbols.now v p.proof.now h.proof h.stand p.command) ∙ rule) h.ok

  asserted_alike : (assumed : ℕ) → clause_of_command p ≡ assumed ∷ [] → (us : List Term) → clause_at h.proof p.command ≡ us
      → ReferToAll p.symbols.now v (assumed ∷ []) us → (u : Term) × RefersTo p.symbols.now v assumed u × IsAsserted Mode.Check h.assertions u
  asserted_alike assumed clause [] is stands = absurd stands
  asserted_alike assumed clause (u ∷ (w ∷ us)) is stands = absurd stands.1
  asserted_alike assumed clause (u ∷ []) is stands = (
    u,
    stands.0,
    All-contains (IsAsserted Mode.Check h.assertions) (clause_at h.proof p.command) u
        (may_assume (sym (scope_same p.symbols.now v p.proof.now h.proof h.stand p.command) ∙ h.outer rule))
        (subst (λ ts. Contains ts u) (sym is) (contains_head u [])),
  )

  -- the assertions, one after the other
  module _ (assumed : ℕ) (clause : clause_of_command p ≡ assumed ∷ []) where
    pub assumed_term : IsTerm p.symbols.now v assumed
    assumed_term =
        literal_term p v h assumed
        (Contains-append_left (clause_of_command p) (flat_map (clause_at p.proof.now) (premises_at p.proof.now p.command)) assumed
        (subst (λ rs. Contains rs assumed) (sym clause) (contains_head assumed [])))

    pub first_found : (place q : ℕ) → place < length p.asserted.now → q ≡ get_or p.asserted.now place q
        → ((u : Term) → RefersTo p.symbols.now v assumed u → IsFirstLike h.assertions u place) → IsAssumedBy p v q assumed
    first_found place q below is first =
        let t = assumed_term in
        let found = first t.means t.refers in
        let there = slice_get_read p.asserted.now (length p.asserted.now) place q refl below is in
        let a = term_there p.symbols.now v p.asserted.now h.assertions place q h.asserted there in
        record {
          term = t.means;
          clause = clause;
          refers = t.refers;
          first_is = record {
            rule = rule;
            assumed = assumed;
            clause = clause;
            assumed_refers = t.refers;
            before = take place p.asserted.now;
            after = drop (place + 1) p.asserted.now;
            asserted = sym (take-append-drop place p.asserted.now)
                ∙ ap (λ xs. take place p.asserted.now ++ xs)
                (drop_more p.asserted.now place q below ∙ ap (λ x. x ∷ drop (place + 1) p.asserted.now) (sym is));
            others = λ r has.
                let n = before_there p.asserted.now place r has in
                let o = term_there p.symbols.now v p.asserted.now h.assertions n.0 r h.asserted n.2 in
                record { term = o.0; refers = o.2; differs = found.others n.0 o.0 n.1 o.1 };
            term = a.0;
            refers = a.2;
            equal = subst (λ x. EqualUpToFlips x t.means) (same_some (sym found.there ∙ a.1)) found.equal;
          };
        }

    -- some assertion is equal to the term
    pub some_alike : ((u : Term) → RefersTo p.symbols.now v assumed u → ¬ Any (λ a. EqualUpToFlips a u) h.assertions) → ⊥
    some_alike none =
        let k = asserted_alike assumed clause (clause_at h.proof p.command) refl
        (subst (λ rs. ReferToAll p.symbols.now v rs (clause_at h.proof p.command)) clause
        (clause_stands p.symbols.now v p.proof.now h.proof h.stand p.command)) in
        none k.0 k.1 k.2

-- the first one and the term may be joined
module _ (p : Site) (v : TermsView) (h : IsToElaborate p v) (rule : rule_of_command p ≡ Rule.Assume) (first assumed : ℕ) (k : IsAssumedBy p v first assumed) where
  first_among : Contains p.asserted.now first
  first_among =
      subst (λ xs. Contains xs first) (sym k.first_is.asserted)
      (Contains-append_right k.first_is.before (first ∷ k.first_is.after) first (contains_head first k.first_is.after))

  truth : IsClosedTruth k.first_is.term
  truth =
      All-contains IsClosedTruth h.assertions k.first_is.term h.truths
      (referred_among p.symbols.now v h.table h.known p.asserted.now h.assertions h.asserted first k.first_is.term first_among k.first_is.refers)

  first_fits : IsLiteralAt p k.first_is.term
  first_fits = (truth.sort, λ x free. absurd (truth.closed x free))

  assumed_among : Contains (literals_of_command p) assumed
  assumed_among =
      Contains-append_left (clause_of_command p) (flat_map (clause_at p.proof.now) (premises_at p.proof.now p.command)) assumed
      (subst (λ rs. Contains rs assumed) (sym k.clause) (contains_head assumed []))

  assumed_literal : IsLiteralOfCommand p v k.term
  assumed_literal = record { reference = assumed; among = assumed_among; refers = k.refers }

  pub assumed_fits : IsLiteralAt p k.term
  assumed_fits = literal_fits p v h k.term assumed_literal

  paired_here : ArePaired p v k.first_is.term k.term
  paired_here =
      inl (pair_linked k.first_is.term k.term
      (linked_assumed (record { reference = first; first = k.first_is; refers = k.first_is.refers })))

  pub assumed_flips : AreFlips p v first assumed
  assumed_flips = record {
    left = k.first_is.term;
    right = k.term;
    left_refers = k.first_is.refers;
    right_refers = k.refers;
    left_in = record {
      root = first;
      is = root_asserted k.term k.first_is;
      stands = record { whole = k.first_is.term; whole_refers = k.first_is.refers; term = k.first_is.term; refers = k.first_is.refers; within = whole };
    };
    right_in = record {
      root = assumed;
      is = root_literal assumed_among;
      stands = record { whole = k.term; whole_refers = k.refers; term = k.term; refers = k.refers; within = whole };
    };
    sides = record { sort = _; left = first_fits; right = assumed_fits };
    paired = paired_here;
    equal = k.first_is.equal;
  }

  pub may_be_asserted : MayBeAsserted p v first
  may_be_asserted = record {
    outer = h.outer rule;
    among = first_among;
    term = k.first_is.term;
    refers = k.first_is.refers;
    fits = first_fits;
    made = made_stated k.first_is.term (made_paired k.first_is.term k.term k.first_is.term paired_here pair_left);
  }

  pub made_literals : AreMadeLiterals p v first assumed
  made_literals = record {
    left = k.first_is.term;
    right = k.term;
    left_refers = k.first_is.refers;
    right_refers = k.refers;
    fits = first_fits;
    left_made = made_stated k.first_is.term (made_paired k.first_is.term k.term k.first_is.term paired_here pair_left);
    denied_made = made_denied k.first_is.term k.term paired_here;
    right_made = made_stated k.term (made_literal k.term assumed_literal);
  }

-- the negation of the first one is made, too
pub deniable : (p : Site) (v : TermsView) (a b : ℕ) → AreMadeLiterals p v a b → IsDeniable p v a
deniable p v a b h = record { term = h.left; refers = h.left_refers; made = h.denied_made }

-- these go on being so as more terms are known
module _ (p : Site) (v w : TermsView) (keeps : KeepsTerms v w) where
  pub literals_later : (a b : ℕ) → AreMadeLiterals p v a b → AreMadeLiterals p w a b
  literals_later a b h = record {
    left = h.left;
    right = h.right;
    left_refers = refers_later p.symbols.now v w a h.left keeps h.left_refers;
    right_refers = refers_later p.symbols.now v w b h.right keeps h.right_refers;
    fits = h.fits;
    left_made = made_later p v w keeps h.left h.left_made;
    denied_made = made_later p v w keeps (not_of h.left) h.denied_made;
    right_made = made_later p v w keeps h.right h.right_made;
  }

  first_later : (u : Term) (r : ℕ) → IsFirstAsserted p v u r → IsFirstAsserted p w u r
  first_later u r h = record {
    rule = h.rule;
    assumed = h.assumed;
    clause = h.clause;
    assumed_refers = refers_later p.symbols.now v w h.assumed u keeps h.assumed_refers;
    before = h.before;
    after = h.after;
    asserted = h.asserted;
    others = λ q has. let one = h.others q has in record { term = one.term; refers = refers_later p.symbols.now v w q one.term keeps one.refers; differs = one.differs };
    term = h.term;
    refers = refers_later p.symbols.now v w r h.term keeps h.refers;
    equal = h.equal;
  }

  pub assumed_later : (first assumed : ℕ) → IsAssumedBy p v first assumed → IsAssumedBy p w first assumed
  assumed_later first assumed h = record {
    term = h.term;
    clause = h.clause;
    refers = refers_later p.symbols.now v w assumed h.term keeps h.refers;
    first_is = first_later h.term first h.first_is;
  }
