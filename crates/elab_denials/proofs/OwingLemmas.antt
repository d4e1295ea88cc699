-- Private. How a clause that owes denials of pairs goes on.
use Rattle.std.proofs.Common.{◌≡◌, ◌≢◌, ◌⊎◌, inl, inr, ℕ, Bool, true, false, not, List, [], ◌∷◌, ◌++◌, Contains, refl, sym, ◌∙◌, ap, subst}
use Rattle.std.proofs.lemmas.List.Elements.{Contains-append_left, Contains-append_right, Contains-push_cases}
use Rattle.term_model.proofs.Lists.{contains_cases, contains_head, contains_later, contains_none}
use Rattle.term_model.specs.Flips.{equality}
use Rattle.term_model.specs.Terms.{Term, not_of}
use Rattle.term_pool.proofs.References.{AreOne}
use Rattle.term_pool.specs.Views.{TermsView, KeepsTerms, RefersTo}
use Rattle.proof_store.specs.AddedSteps.{AddedStep}
use Rattle.proof_store.specs.declared.added.Link.{Link}
use Rattle.rule_model.specs.Resolution.{IsFirstsOf, IsResolvent, LeavesWithout, with_sign}
use Rattle.equality_steps.specs.declared.site.Site.{Site}
use Rattle.equality_steps.specs.Blocks.{Extends}
use Rattle.equality_steps.specs.Given.{AreOpposed}
use Rattle.equality_steps.specs.Links.{LinkEquates, LinkSays}
use Rattle.equality_blocks.specs.Commands.{clause_of_command}
use Rattle.equality_blocks.specs.Made.{IsMadeFor, IsStatedFor, StandsForMade, literal, paired, stated}
use Rattle.equality_blocks.specs.Made.{equated as pair_equated, turned as pair_turned}
use Rattle.equality_blocks.proofs.StayLemmas.{made_later}
use Rattle.elab_denials.specs.Owing.{AreOpposedOn, Frees, HasDenial, IsDenialGiven, IsDenialOf, IsFreedBy, IsGiven, IsOwed, IsOwing, SaysResolvent, SaysTurned}
use Rattle.elab_denials.specs.Working.{IsMadeEquality, IsPlaceAt}
use Rattle.elab_denials.proofs.WorkLemmas.{extends_none, flips_later, later}

abbrev pub LinksStay : Type 0
LinksStay =
    (p : Site) (v w : TermsView) (old new : List AddedStep) (link : Link) (clause : List Term) → KeepsTerms v w → Extends old new →
    LinkSays p v old link clause → LinkSays p w new link clause

abbrev pub HaveOthers : Type 0
HaveOthers =
    (left right : List Term) (p : Term) (b : Bool) (result : List Term) (u : Term) → IsResolvent left right p b result → Contains result u →
    (Contains left u × (u ≢ with_sign p b)) ⊎ (Contains right u × (u ≢ with_sign p (not b)))

denied_left : (a b c d : Term) → not_of (equality a b) ≡ not_of (equality c d) → a ≡ c
denied_left a b c d e = cc

denied_right : (a b c d : Term) → not_of (equality a b) ≡ not_of (equality c d) → b ≡ d
denied_right a b c d e = cc

pair_same : (x y : ℕ × ℕ) → x.0 ≡ y.0 → x.1 ≡ y.1 → x ≡ y
pair_same (a, b) (c, d) e f = ap (λ z. (z, b)) e ∙ ap (λ z. (c, z)) f

pub pair_eta : (q : ℕ × ℕ) → (q.0, q.1) ≡ q
pair_eta (a, b) = refl

-- what is kept
leaves_keep : (p : Term) (ts rest : List Term) (u : Term) → LeavesWithout p ts rest → Contains ts u → u ≢ p → Contains rest u
leaves_keep p [] rest u h has other = absurd (contains_none u has)
leaves_keep p (t ∷ ts) rest u (inl (same, more)) has other = elim (contains_cases t u ts has) [
  | inl here ↦ absurd (other (sym here ∙ same))
  | inr below ↦ leaves_keep p ts rest u more below other
]
leaves_keep p (t ∷ ts) rest u (inr (differs, (us, e, more))) has other = elim (contains_cases t u ts has) [
  | inl here ↦ rw (e, ← here) (contains_head t us)
  | inr below ↦ rw e (contains_later t u us (leaves_keep p ts us u more below other))
]

firsts_keep : (seen ts rest : List Term) (u : Term) → IsFirstsOf seen ts rest → Contains ts u → Contains seen u ⊎ Contains rest u
firsts_keep seen [] rest u h has = absurd (contains_none u has)
firsts_keep seen (t ∷ ts) rest u (inl (before, more)) has = elim (contains_cases t u ts has) [
  | inl here ↦ inl (subst (Contains seen) here before)
  | inr below ↦ firsts_keep seen ts rest u more below
]
firsts_keep seen (t ∷ ts) rest u (inr (lacks, (us, e, more))) has = elim (contains_cases t u ts has) [
  | inl here ↦ inr (rw (e, ← here) (contains_head t us))
  | inr below ↦ elim (firsts_keep (seen ++ t ∷ []) ts us u more below) [
    | inl pushed ↦ elim (Contains-push_cases seen t u pushed) [
      | inl before ↦ inl before
      | inr last ↦ inr (rw e (subst (Contains (t ∷ us)) last (contains_head t us)))
    ]
    | inr kept ↦ inr (rw e (contains_later t u us kept))
  ]
]

first_of_none : (ts rest : List Term) (u : Term) → IsFirstsOf [] ts rest → Contains ts u → Contains rest u
first_of_none ts rest u h has = elim (firsts_keep [] ts rest u h has) [ inl none ↦ absurd (contains_none u none) | inr kept ↦ kept ]

pub left_kept : (left right result : List Term) (t u : Term) → IsResolvent left right t false result → Contains left u → u ≢ not_of t → Contains result u
left_kept left right result t u h has other =
    first_of_none (h.left_rest ++ h.right_rest) result u h.firsts
    (Contains-append_left h.left_rest h.right_rest u (leaves_keep (not_of t) left h.left_rest u h.left_is has other))

pub right_kept : (left right result : List Term) (t u : Term) → IsResolvent left right t false result → Contains right u → u ≢ t → Contains result u
right_kept left right result t u h has other =
    first_of_none (h.left_rest ++ h.right_rest) result u h.firsts
    (Contains-append_right h.left_rest h.right_rest u (leaves_keep t right h.right_rest u h.right_is has other))

module _ (p : Site) where
  pub given_made : (v : TermsView) (x : Term) → IsGiven p v x → IsMadeFor p v x
  given_made v x h = stated x (literal x (record {
    reference = h.reference;
    among = Contains-append_left (clause_of_command p) _ h.reference h.among;
    refers = h.refers;
  }))

  -- literals made for a place
  pub equality_made : (v : TermsView) (a b : ℕ) (h : IsPlaceAt p v a b) → IsStatedFor p v (equality h.left h.right)
  equality_made v a b h = paired h.left h.right (equality h.left h.right) h.paired pair_equated

  pub turned_made : (v : TermsView) (a b : ℕ) (h : IsPlaceAt p v a b) → IsStatedFor p v (equality h.right h.left)
  turned_made v a b h = paired h.left h.right (equality h.right h.left) h.paired pair_turned

  -- as more is known
  module _ (v w : TermsView) (keeps : KeepsTerms v w) where
    pub given_later : (x : Term) → IsGiven p v x → IsGiven p w x
    given_later x h = record { reference = h.reference; among = h.among; refers = later p v w keeps h.reference x h.refers }

    pub denial_later : (q : ℕ × ℕ) (x : Term) → IsDenialOf p v q x → IsDenialOf p w q x
    denial_later q x h = record {
      left = h.left;
      right = h.right;
      left_refers = later p v w keeps q.0 h.left h.left_refers;
      right_refers = later p v w keeps q.1 h.right h.right_refers;
      is = h.is;
    }

    pub owed_later : (pairs : List (ℕ × ℕ)) (x : Term) → IsOwed p v pairs x → IsOwed p w pairs x
    owed_later pairs x h = record { pair = h.pair; among = h.among; denies = denial_later h.pair x h.denies; made = made_later p v w keeps x h.made }

    pub has_later : (clause : List Term) (q : ℕ × ℕ) → HasDenial p v clause q → HasDenial p w clause q
    has_later clause q h = record { literal = h.literal; among = h.among; denies = denial_later q h.literal h.denies }

    pub denied_later : (q : ℕ × ℕ) → IsDenialGiven p v q → IsDenialGiven p w q
    denied_later q h = record { literal = h.literal; given = given_later h.literal h.given; denies = denial_later q h.literal h.denies }

    pub freed_later : (q : ℕ × ℕ) (b : Bool) → IsFreedBy p v q b → IsFreedBy p w q b
    freed_later q true h = denied_later (q.1, q.0) h
    freed_later q false h = flips_later p v w keeps q.0 q.1 h

    pub owing_later : LinksStay → (old new : List AddedStep) → Extends old new → (link : Link) (pairs : List (ℕ × ℕ)) → IsOwing p v old link pairs
        → IsOwing p w new link pairs
    owing_later links old new more link pairs h = record {
      clause = h.clause;
      says = links p v w old new link h.clause keeps more h.says;
      each = λ x has. elim (h.each x has) [ inl given ↦ inl (given_later x given) | inr owed ↦ inr (owed_later pairs x owed) ];
      all = λ q among. has_later h.clause q (h.all q among);
    }

  -- a pair that comes again, or is given, is owed no more
  module _ (v : TermsView) (one : AreOne p.symbols.now v) where
    pub denials_same : (q : ℕ × ℕ) (x y : Term) → IsDenialOf p v q x → IsDenialOf p v q y → x ≡ y
    denials_same q x y h k =
        let first = (one q.0 q.0 h.left k.left h.left_refers k.left_refers).0 refl in
        let second = (one q.1 q.1 h.right k.right h.right_refers k.right_refers).0 refl in
        h.is ∙ ap (λ t. not_of (equality t h.right)) first ∙ ap (λ u. not_of (equality k.left u)) second ∙ sym k.is

    pub owing_rest : (steps : List AddedStep) (link : Link) (q : ℕ × ℕ) (rest : List (ℕ × ℕ)) → IsDenialGiven p v q ⊎ Contains rest q
        → IsOwing p v steps link (q ∷ rest) → IsOwing p v steps link rest
    owing_rest steps link q rest why h = record {
      clause = h.clause;
      says = h.says;
      each = λ x has. elim (h.each x has) [ inl given ↦ inl given | inr owed ↦ still x owed ];
      all = λ r among. h.all r (contains_later q r rest among);
    }
      where
        again : (x : Term) → IsDenialOf p v q x → IsOwed p v (q ∷ rest) x → IsGiven p v x ⊎ IsOwed p v rest x
        again x is owed = elim why [
          | inl given ↦ inl (subst (IsGiven p v) (denials_same q given.literal x given.denies is) given.given)
          | inr below ↦ inr (record { pair = q; among = below; denies = is; made = owed.made })
        ]

        still : (x : Term) → IsOwed p v (q ∷ rest) x → IsGiven p v x ⊎ IsOwed p v rest x
        still x owed = elim (contains_cases q owed.pair rest owed.among) [
          | inl here ↦ again x (subst (λ r. IsDenialOf p v r x) (sym here) owed.denies) owed
          | inr below ↦ inr (record { pair = owed.pair; among = below; denies = owed.denies; made = owed.made })
        ]

    -- the clauses may be resolved
    pub opposed : (steps : List AddedStep) (link right : Link) (q : ℕ × ℕ) (rest : List (ℕ × ℕ)) → IsPlaceAt p v q.0 q.1 → IsOwing p v steps link (q ∷ rest)
        → Frees p v steps right q → AreOpposedOn p v steps link right q
    opposed steps link right q rest place h f =
        let has = h.all q (contains_head q rest) in
        let first = (one q.0 q.0 has.denies.left f.left has.denies.left_refers f.left_refers).0 refl in
        let second = (one q.1 q.1 has.denies.right f.right has.denies.right_refers f.right_refers).0 refl in
        let same : has.literal ≡ not_of (equality f.left f.right) = has.denies.is ∙ ap (λ t. not_of (equality t has.denies.right)) first ∙ ap (λ u. not_of (equality f.left u)) second in
        record {
          one = f.left;
          other = f.right;
          one_refers = f.left_refers;
          other_refers = f.right_refers;
          left_clause = h.clause;
          left_says = h.says;
          left_has = subst (Contains h.clause) same has.among;
          left_made = λ x among. elim (h.each x among) [ inl given ↦ given_made v x given | inr owed ↦ owed.made ];
          right_clause = f.clause;
          right_says = f.says;
          right_has = f.has;
          right_made = λ x among. right_made x among;
        }
      where
        atom_made : IsMadeFor p v (equality f.left f.right)
        atom_made =
            let first = (one q.0 q.0 place.left f.left place.left_refers f.left_refers).0 refl in
            let second = (one q.1 q.1 place.right f.right place.right_refers f.right_refers).0 refl in
            subst (λ u. IsMadeFor p v (equality f.left u)) second
            (subst (λ t. IsMadeFor p v (equality t place.right)) first (stated (equality place.left place.right) (equality_made v q.0 q.1 place)))

        right_made : (x : Term) → Contains f.clause x → IsMadeFor p v x
        right_made x among = elim (f.others x among) [ inl atom ↦ subst (IsMadeFor p v) (sym atom) atom_made | inr given ↦ given_made v x given ]

    -- what is left of them owes the others
    pub owing_step : HaveOthers → (w : TermsView) → KeepsTerms v w → (old new : List AddedStep) (link right next : Link) (q : ℕ × ℕ) (rest : List (ℕ × ℕ))
        (h : IsOwing p v old link (q ∷ rest)) (f : Frees p v old right q) → (Contains rest q → ⊥)
        → SaysResolvent p w new next h.clause f.clause (equality f.left f.right) → IsOwing p w new next rest
    owing_step others w keeps old new link right next q rest h f last r = record {
      clause = r.clause;
      says = r.says;
      each = λ x has. elim (others h.clause f.clause (equality f.left f.right) false r.clause x r.is has) [
        | inl was ↦ elim (h.each x was.0) [ inl given ↦ inl (given_later v w keeps x given) | inr owed ↦ still x owed was.1 ]
        | inr was ↦ elim (f.others x was.0) [ inl atom ↦ absurd (was.1 atom) | inr given ↦ inl (given_later v w keeps x given) ]
      ];
      all = λ pair among. kept pair among (h.all pair (contains_later q pair rest among));
    }
      where
        freed : IsDenialOf p v q (not_of (equality f.left f.right))
        freed = record { left = f.left; right = f.right; left_refers = f.left_refers; right_refers = f.right_refers; is = refl }

        still : (x : Term) → IsOwed p v (q ∷ rest) x → x ≢ not_of (equality f.left f.right) → IsGiven p w x ⊎ IsOwed p w rest x
        still x owed other = elim (contains_cases q owed.pair rest owed.among) [
          | inl here ↦
              absurd (other (denials_same q x (not_of (equality f.left f.right)) (subst (λ r. IsDenialOf p v r x) (sym here) owed.denies) freed))
          | inr below ↦
              inr (owed_later v w keeps rest x (record { pair = owed.pair; among = below; denies = owed.denies; made = owed.made }))
        ]

        pairs_same : (pair : ℕ × ℕ) (x : Term) → IsDenialOf p v pair x → x ≡ not_of (equality f.left f.right) → pair ≡ q
        pairs_same pair x d e =
            let both : not_of (equality d.left d.right) ≡ not_of (equality f.left f.right) = sym d.is ∙ e in
            let first : d.left ≡ f.left = denied_left d.left d.right f.left f.right both in
            let second : d.right ≡ f.right = denied_right d.left d.right f.left f.right both in
            pair_same pair q ((one pair.0 q.0 d.left f.left d.left_refers f.left_refers).1 first)
            ((one pair.1 q.1 d.right f.right d.right_refers f.right_refers).1 second)

        kept : (pair : ℕ × ℕ) → Contains rest pair → HasDenial p v h.clause pair → HasDenial p w r.clause pair
        kept pair among d = record {
          literal = d.literal;
          among = left_kept h.clause f.clause r.clause (equality f.left f.right) d.literal r.is d.among
              (λ same. last (subst (Contains rest) (pairs_same pair d.literal d.denies same) among));
          denies = denial_later v w keeps pair d.literal d.denies;
        }

  -- what frees a pair
  pub frees_equated : (v : TermsView) (steps : List AddedStep) (link : Link) (a b : ℕ) → LinkEquates p v steps link a b → Frees p v steps link (a, b)
  frees_equated v steps link a b h = record {
    left = h.left;
    right = h.right;
    left_refers = h.left_refers;
    right_refers = h.right_refers;
    clause = equality h.left h.right ∷ [];
    says = h.says;
    has = contains_head (equality h.left h.right) [];
    others = λ x has. elim (contains_cases (equality h.left h.right) x [] has) [
      | inl here ↦ inl (sym here)
      | inr below ↦ absurd (contains_none x below)
    ];
  }

  pub says_turned : (v : TermsView) (steps : List AddedStep) (link : Link) (a b : ℕ) (t u : Term) → RefersTo p.symbols.now v a t → RefersTo p.symbols.now v b u
      → LinkSays p v steps link (not_of (equality u t) ∷ equality t u ∷ []) → SaysTurned p v steps link a b
  says_turned v steps link a b t u l r says = record { one = t; other = u; one_refers = l; other_refers = r; says = says }

  module _ (v : TermsView) (one : AreOne p.symbols.now v) (steps : List AddedStep) (link : Link) where
    pub frees_turned : (a b : ℕ) → IsDenialGiven p v (b, a) → SaysTurned p v steps link a b → Frees p v steps link (a, b)
    frees_turned a b given h = record {
      left = h.one;
      right = h.other;
      left_refers = h.one_refers;
      right_refers = h.other_refers;
      clause = not_of (equality h.other h.one) ∷ equality h.one h.other ∷ [];
      says = h.says;
      has = contains_later (not_of (equality h.other h.one)) (equality h.one h.other) (equality h.one h.other ∷ []) (contains_head (equality h.one h.other) []);
      others = λ x has. elim (contains_cases (not_of (equality h.other h.one)) x (equality h.one h.other ∷ []) has) [
        | inl here ↦ inr (subst (IsGiven p v) here (subst (IsGiven p v) (denials_same v one (b, a) given.literal (not_of (equality h.other h.one)) given.denies there) given.given))
        | inr below ↦ elim (contains_cases (equality h.one h.other) x [] below) [
          | inl second ↦ inl (sym second)
          | inr none ↦ absurd (contains_none x none)
        ]
      ];
    }
      where
        there : IsDenialOf p v (b, a) (not_of (equality h.other h.one))
        there = record { left = h.other; right = h.one; left_refers = h.other_refers; right_refers = h.one_refers; is = refl }

-- what two opposed clauses make
module _ (p : Site) (v : TermsView) (steps : List AddedStep) (left right : Link) (q : ℕ × ℕ) (o : AreOpposedOn p v steps left right q) where
  pub opposed_equality : IsMadeEquality p v q.0 q.1
  opposed_equality = record {
    left = o.one;
    right = o.other;
    left_refers = o.one_refers;
    right_refers = o.other_refers;
    made = o.right_made (equality o.one o.other) o.right_has;
  }

  pub opposed_denied : AreOne p.symbols.now v → (t u : Term) → RefersTo p.symbols.now v q.0 t → RefersTo p.symbols.now v q.1 u → IsMadeFor p v (not_of (equality t u))
  opposed_denied one t u l r =
      let first = (one q.0 q.0 o.one t o.one_refers l).0 refl in
      let second = (one q.1 q.1 o.other u o.other_refers r).0 refl in
      subst (λ x. IsMadeFor p v (not_of (equality t x))) second
      (subst (λ x. IsMadeFor p v (not_of (equality x o.other))) first (o.left_made (not_of (equality o.one o.other)) o.left_has))

  pub resolvent_made : HaveOthers → (w : TermsView) → KeepsTerms v w → (clause : List Term) → IsResolvent o.left_clause o.right_clause (equality o.one o.other) false clause
      → (x : Term) → Contains clause x → IsMadeFor p w x
  resolvent_made others w keeps clause r x has =
      elim (others o.left_clause o.right_clause (equality o.one o.other) false clause x r has) [
        | inl was ↦ made_later p v w keeps x (o.left_made x was.0)
        | inr was ↦ made_later p v w keeps x (o.right_made x was.0)
      ]

  pub pivot_made : (w : TermsView) → KeepsTerms v w → (atom : ℕ) → RefersTo p.symbols.now w atom (equality o.one o.other) → (x : ℕ × Bool)
      → Contains ((atom, false) ∷ []) x → StandsForMade p w x.0
  pivot_made w keeps atom refers x has = elim (contains_cases (atom, false) x [] has) [
    | inl here ↦ subst (λ (y : ℕ × Bool). StandsForMade p w y.0) here (record {
      term = equality o.one o.other;
      refers = refers;
      made = made_later p v w keeps (equality o.one o.other) (o.right_made (equality o.one o.other) o.right_has);
    })
    | inr none ↦ absurd (contains_none x none)
  ]

  pub opposed_at : LinksStay → (w : TermsView) → KeepsTerms v w → (atom negation : ℕ) → RefersTo p.symbols.now w atom (equality o.one o.other)
      → RefersTo p.symbols.now w negation (not_of (equality o.one o.other)) → AreOpposed p w steps left right atom negation
  opposed_at links w keeps atom negation a n = record {
    term = equality o.one o.other;
    atom_refers = a;
    negation_refers = n;
    left_clause = o.left_clause;
    left_says = links p v w steps steps left o.left_clause keeps (extends_none steps) o.left_says;
    left_has = o.left_has;
    right_clause = o.right_clause;
    right_says = links p v w steps steps right o.right_clause keeps (extends_none steps) o.right_says;
    right_has = o.right_has;
  }
