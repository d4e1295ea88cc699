-- Private. The sides of the clause are matched, or crossed.
use Rattle.std.proofs.Common.{◌≡◌, ℕ, List, [], ◌∷◌, length, get_or, sym, ◌∙◌, ap, subst}
use Rattle.term_model.specs.declared.symbols.Op.{Op}
use Rattle.term_model.specs.Flips.{equality}
use Rattle.term_pool.specs.Views.{TermsView, RefersTo, ReferToAll}
use Rattle.rule_model.specs.Congruence.{applied, operator}
use Rattle.rule_model.specs.declared.rules.Rule.{Rule}
use Rattle.equality_steps.specs.declared.site.Site.{Site}
use Rattle.equality_steps.specs.Sites.{IsSite}
use Rattle.equality_blocks.specs.Commands.{IsToElaborate, rule_of_command}
use Rattle.equality_blocks.specs.Pairs.{IsOfCongruence}
use Rattle.elab_equality.specs.declared.matching.Applications.{Applications}
use Rattle.elab_equality.specs.declared.matching.Crossed.{Crossed}
use Rattle.elab_equality.specs.declared.matching.Matched.{Matched}
use Rattle.elab_equality.specs.Matching.{AreApplications, AreCrossedArguments, AreLinkedArguments, AreMatchedArguments, IsCrossed, IsMatched}
use Rattle.elab_equality.proofs.ApplicationLemmas.{crossed_here, matched_here}
use Rattle.elab_equality.proofs.CrossLemmas.{refer_two}

pub linked_as : (p : Site) (v : TermsView) (ls rs lefts rights : List ℕ) → ls ≡ lefts → rs ≡ rights → AreLinkedArguments p v lefts rights → AreLinkedArguments p v ls rs
linked_as p v ls rs lefts rights e d h =
    subst (λ xs. AreLinkedArguments p v xs rs) (sym e) (subst (λ ys. AreLinkedArguments p v lefts ys) (sym d) h)

pub matched_as : (p : Site) (v : TermsView) (ls rs lefts rights : List ℕ) → ls ≡ lefts → rs ≡ rights → AreMatchedArguments p v ls rs → AreMatchedArguments p v lefts rights
matched_as p v ls rs lefts rights e d h =
    subst (λ xs. AreMatchedArguments p v xs rights) e (subst (λ ys. AreMatchedArguments p v ls ys) d h)

pub crossed_as : (p : Site) (v : TermsView) (ls rs lefts rights : List ℕ) → ls ≡ lefts → rs ≡ rights → AreCrossedArguments p v ls rs → AreCrossedArguments p v lefts rights
crossed_as p v ls rs lefts rights e d h =
    subst (λ xs. AreCrossedArguments p v xs rights) e (subst (λ ys. AreCrossedArguments p v ls ys) d h)

by_cong : (p : Site) → rule_of_command p ≡ Rule.Cong → IsOfCongruence (rule_of_command p)
by_cong p rule = subst IsOfCongruence (sym rule) tt

-- the items of a list of two
two_are : (xs : List ℕ) (m n a b : ℕ) → xs ≡ m ∷ n ∷ [] → a ≡ get_or xs 0 a → b ≡ get_or xs 1 b → xs ≡ a ∷ b ∷ []
two_are xs m n a b is first second =
    let one : a ≡ m = first ∙ ap (λ ys. get_or ys 0 a) is in
    let two : b ≡ n = second ∙ ap (λ ys. get_or ys 1 b) is in
    is ∙ (ap (λ z. z ∷ n ∷ []) (sym one) ∙ ap (λ z. a ∷ z ∷ []) (sym two))

module _ (p : Site) (v : TermsView) (job : IsToElaborate p v) (rule : rule_of_command p ≡ Rule.Cong) (site : IsSite p v) (x : Applications) (h : AreApplications p v x) where
  pub add_matched : (y : Matched) → y.left ≡ x.left → y.right ≡ x.right → y.lefts.now ≡ x.lefts.items → y.rights.now ≡ x.rights.items
      → AreMatchedArguments p v x.lefts.items x.rights.items → IsMatched p v y
  add_matched y left right lefts rights matched =
      let k = h.linked in
      matched_here p v job (by_cong p rule) site h.literal h.clause k.head k.ts k.us h.some h.literal_refers k.premises k.are y
      (subst (λ r. RefersTo p.symbols.now v r (applied k.head k.ts)) (sym left) h.left_refers)
      (subst (λ r. RefersTo p.symbols.now v r (applied k.head k.us)) (sym right) h.right_refers)
      (subst (λ rs. ReferToAll p.symbols.now v rs k.ts) (sym lefts) k.lefts_refer) (subst (λ rs. ReferToAll p.symbols.now v rs k.us) (sym rights) k.rights_refer)
      (matched k)

  -- the arguments are two and two
  pub record AreTwos : Type 0 where
    pub a : ℕ
    pub b : ℕ
    pub c : ℕ
    pub d : ℕ
    pub lefts : x.lefts.items ≡ a ∷ b ∷ []
    pub rights : x.rights.items ≡ c ∷ d ∷ []

  pub crossed_twos : AreCrossedArguments p v x.lefts.items x.rights.items → AreTwos
  crossed_twos crossed =
      let k = crossed h.linked in
      let left = refer_two p v x.lefts.items k.a k.b (subst (ReferToAll p.symbols.now v x.lefts.items) k.one h.linked.lefts_refer) in
      let right = refer_two p v x.rights.items k.c k.d (subst (ReferToAll p.symbols.now v x.rights.items) k.other h.linked.rights_refer) in
      record { a = left.0; b = left.1; c = right.0; d = right.1; lefts = left.2; rights = right.2 }

  pub add_crossed : (y : Crossed) → y.left ≡ x.left → y.right ≡ x.right → (crossed : AreCrossedArguments p v x.lefts.items x.rights.items)
      → x.lefts.items ≡ y.a ∷ y.b ∷ [] → x.rights.items ≡ y.c ∷ y.d ∷ [] → IsCrossed p v y
  add_crossed y left right crossed lefts rights =
      let k = crossed h.linked in
      let first = subst (λ rs. ReferToAll p.symbols.now v rs (k.a ∷ k.b ∷ [])) lefts
      (subst (ReferToAll p.symbols.now v x.lefts.items) k.one h.linked.lefts_refer) in
      let second = subst (λ rs. ReferToAll p.symbols.now v rs (k.c ∷ k.d ∷ [])) rights
      (subst (ReferToAll p.symbols.now v x.rights.items) k.other h.linked.rights_refer) in
      let left_is : applied h.linked.head h.linked.ts ≡ equality k.a k.b = ap (λ z. applied z h.linked.ts) k.equal ∙ ap (applied (operator Op.Equal)) k.one in
      let right_is : applied h.linked.head h.linked.us ≡ equality k.c k.d = ap (λ z. applied z h.linked.us) k.equal ∙ ap (applied (operator Op.Equal)) k.other in
      crossed_here p v job (by_cong p rule) site h.literal h.clause k.a k.b k.c k.d
      (subst (λ z. RefersTo p.symbols.now v h.literal (equality (equality k.a k.b) z)) right_is
      (subst (λ z. RefersTo p.symbols.now v h.literal (equality z (applied h.linked.head h.linked.us))) left_is h.literal_refers)) h.linked.premises h.linked.are y
      (subst (λ r. RefersTo p.symbols.now v r (equality k.a k.b)) (sym left) (subst (RefersTo p.symbols.now v x.left) left_is h.left_refers))
      (subst (λ r. RefersTo p.symbols.now v r (equality k.c k.d)) (sym right) (subst (RefersTo p.symbols.now v x.right) right_is h.right_refers))
      first.0 first.1.0 second.0 second.1.0 k.outer k.inner

  -- the items of two and two
  pub twos_are : (t : AreTwos) → (a b c d : ℕ) → a ≡ get_or x.lefts.items 0 a → b ≡ get_or x.lefts.items 1 b → c ≡ get_or x.rights.items 0 c
      → d ≡ get_or x.rights.items 1 d → (x.lefts.items ≡ a ∷ b ∷ []) × (x.rights.items ≡ c ∷ d ∷ [])
  twos_are t a b c d first second third fourth = (
    two_are x.lefts.items t.a t.b a b t.lefts first second,
    two_are x.rights.items t.c t.d c d t.rights third fourth,
  )

  pub twos_long : AreTwos → (length x.lefts.items ≡ 2) × (length x.rights.items ≡ 2)
  twos_long t = (ap length t.lefts, ap length t.rights)
