-- The entries of terms and of lists are right, where those of their parts are.
use Rattle.std.proofs.Common.{◌≡◌, ◌≢◌, ℕ, ◌+◌, ◌*◌, ◌<◌, ◌≤◌, ◌^◌, min, max, ℤ, pos, neg_ℤ, ◌*ℤ◌, unsigned_abs, true, false, refl, sym, ap, ◌∙◌, subst, arith}
use Rattle.std.proofs.Math.IntN.{*ℤ_comm, zero-*ℤ}
use Rattle.std.proofs.lemmas.Int.{ints}
use Rattle.std.proofs.lemmas.Bool.Decides.{nat_tests}
use Rattle.term_model.specs.declared.symbols.Op.{Op}
use Rattle.term_model.specs.Terms.{Term, numeral, operation, Terms, no_terms, term}
use Rattle.term_pool.specs.Views.{TermsView, RefersTo}
use Rattle.sym_table.specs.Table.{Table}
use Rattle.rule_model.specs.LinearForms.{is_constant, others, is_linear, constant}
use Rattle.rule_model.specs.Weights.{weight, weight_sum, weight_product}
use Rattle.rule_model.proofs.LinearForms.{constant_part}
use Rattle.rule_model.proofs.Ring.{one-mul, neg-mul}
use Rattle.linear_forms.specs.declared.entries.Entry.{Entry}
use Rattle.linear_forms.specs.declared.entries.Found.{Found}
use Rattle.linear_forms.specs.declared.memory.Item.{Item}
use Rattle.linear_forms.specs.declared.memory.Item.TheVariants.{Term as TermItem, List as ListItem}
use Rattle.linear_forms.specs.declared.nodes.Factors.{Factors}
use Rattle.linear_forms.specs.declared.nodes.Factors.TheVariants.{Constants, Single, Many}
use Rattle.linear_forms.specs.declared.nodes.Info.{Info}
use Rattle.linear_forms.specs.Entries.{once, taken_away, term_info, constant_info, constant_entry, number_entry, opaque_entry, sum_entry, negated_entry, difference_entry, product_entry, single_entry, pair_entry}
use Rattle.linear_forms.specs.Factors.{IsAbove}
use Rattle.linear_forms.specs.Graphs.{AreSome, IsNumberNode, IsNode, AreFactors, IsInfo, IsOwn, IsEntry}
use Rattle.linear_forms.specs.Infos.{limit_weight}
use Rattle.linear_forms.specs.Readings.{FormReading, for_constants, for_parts, unit_of, opaque_in, read, sum_in, product_in}
use Rattle.linear_forms.proofs.Products.{sum_first, sum_one, difference_first, product_constant, product_other, info_joined}
use Rattle.linear_forms.proofs.Weighing.{sum_positive, min_sum}

-- what an opaque term is
pub record IsOpaqueTerm (t : Term) : Type 0 where
  pub weight_is : weight t ≡ 1
  pub counts : (reading : FormReading) → read reading t ≡ opaque_in reading t
  pub none : is_constant t ≡ false

-- a number that is no constant by its form
pub record IsNumberTerm (t : Term) (z : ℤ) : Type 0 where
  pub weight_is : weight t ≡ 1
  pub counts : (reading : FormReading) → read reading t ≡ z *ℤ unit_of reading
  pub size : unsigned_abs z ≤ 1
  pub none : is_constant t ≡ false

-- a constant
pub record IsConstantTerm (t : Term) (z : ℤ) : Type 0 where
  pub test : is_constant t ≡ true
  pub value : constant t ≡ z
  pub weight_is : weight t ≡ max (unsigned_abs z) 1

max_filled : (n : ℕ) → 1 ≤ n → max n 1 ≡ n
max_filled n h = omega (arith, h)

max_more : (n : ℕ) → n ≤ max n 1
max_more n = omega arith

single_sum : (t : Term) → weight_sum (term t no_terms) ≡ weight t
single_sum t = omega arith

single_product : (t : Term) → weight_product (term t no_terms) ≡ weight t
single_product t = omega arith

plus_read : (reading : FormReading) (us : Terms) → read reading (operation Op.Plus us) ≡ sum_in reading us
plus_read for_constants us = refl
plus_read (for_parts w) us = refl

negation_read : (reading : FormReading) (u : Term) → read reading (operation Op.Minus (term u no_terms)) ≡ neg_ℤ (read reading u)
negation_read for_constants u = refl
negation_read (for_parts w) u = refl

empty_product : (reading : FormReading) → product_in reading no_terms ≡ unit_of reading
empty_product for_constants = refl
empty_product (for_parts w) = refl

linear_is : (us : Terms) → others us ≤ 1 → is_linear us ≡ true
linear_is us h = grind (arith, nat_tests)

nonlinear_is : (us : Terms) → 2 ≤ others us → is_linear us ≡ false
nonlinear_is us h = grind (arith, nat_tests)

times_read : (reading : FormReading) (us : Terms) → is_linear us ≡ true → read reading (operation Op.Times us) ≡ product_in reading us
times_read for_constants us e = rw e refl
times_read (for_parts w) us e = rw e refl

times_weight : (us : Terms) → is_linear us ≡ true → weight (operation Op.Times us) ≡ weight_product us
times_weight us e = rw e refl

pub times_opaque : (us : Terms) → is_linear us ≡ false → IsOpaqueTerm (operation Op.Times us)
times_opaque us e = record { weight_is = rw e refl; counts = go; none = refl }
  where
    go : (reading : FormReading) → read reading (operation Op.Times us) ≡ opaque_in reading (operation Op.Times us)
    go for_constants = rw e refl
    go (for_parts w) = rw e refl

minus_more : (u : Term) (us : Terms) → AreSome us → is_constant (operation Op.Minus (term u us)) ≡ false
minus_more u no_terms h = absurd h
minus_more (numeral n) (term w ws) h = refl
minus_more u (term w ws) h = refl

pub minus_other : (u : Term) → ((n : ℕ) → u ≢ numeral n) → is_constant (operation Op.Minus (term u no_terms)) ≡ false
minus_other (numeral n) h = absurd (h n refl)
minus_other u h = refl

pub negated_constant : (n : ℕ) → IsConstantTerm (operation Op.Minus (term (numeral n) no_terms)) (neg_ℤ (pos n))
negated_constant n = record { test = refl; value = refl; weight_is = weighed n }
  where
    weighed : (n : ℕ) → max (max n 1 + 0) 1 ≡ max (unsigned_abs (neg_ℤ (pos n))) 1
    weighed n = omega (arith, ints)

pub numeral_constant : (n : ℕ) → IsConstantTerm (numeral n) (pos n)
numeral_constant n = record { test = refl; value = refl; weight_is = refl }

-- what has been met, with its terms
pub record IsMet (at : ℕ → Terms) (own : ℕ) (ts : Terms) (f : Found) : Type 0 where
  pub below : f.number < own
  pub terms_are : at f.number ≡ ts
  pub known : IsInfo at f.number ts f.info

module _ (s : Table) (v : TermsView) (at : ℕ → Terms) (own : ℕ) where
  entry_of : (x : Item) (ts : Terms) (entry : Entry) → at own ≡ ts → IsAbove own entry.node → (weight_sum ts < 2 ^ 127 → IsNode s v at ts entry.node) → IsInfo at own ts entry.info → IsOwn x entry.node → IsEntry s v at own x entry
  entry_of x ts entry e above right known mine = record {
    above = above;
    right = subst (λ z. weight_sum z < 2 ^ 127 → IsNode s v at z entry.node) (sym e) right;
    known = subst (λ z. IsInfo at own z entry.info) (sym e) known;
    own = mine;
  }

  -- a part once, and taken away
  once_is : (reading : FormReading) (ts : Terms) (f : Found) → IsMet at own ts f → (once f.number).times *ℤ sum_in reading (at f.number) ≡ sum_in reading ts
  once_is reading ts f met = rw met.terms_are (one-mul (sum_in reading ts))

  less_is : (reading : FormReading) (ts : Terms) (f : Found) → IsMet at own ts f → (taken_away f.number).times *ℤ sum_in reading (at f.number) ≡ neg_ℤ (sum_in reading ts)
  less_is reading ts f met =
      rw met.terms_are
      (let e : neg_ℤ (pos 1) *ℤ sum_in reading ts ≡ neg_ℤ (pos 1 *ℤ sum_in reading ts) = neg-mul (pos 1) (sum_in reading ts) in
      e ∙ ap neg_ℤ (one-mul (sum_in reading ts)))

  once_weight : (ts : Terms) (f : Found) → IsMet at own ts f → 1 * weight_sum (at f.number) ≡ weight_sum ts
  once_weight ts f met = rw met.terms_are (omega arith)

  module _ (t : Term) (e : at own ≡ term t no_terms) where
    own_sum : (reading : FormReading) → sum_in reading (at own) ≡ read reading t
    own_sum reading = ap (sum_in reading) e ∙ sum_one reading t

    own_weight : weight_sum (at own) ≡ weight t
    own_weight = ap weight_sum e ∙ single_sum t

    term_known : (w : ℕ) → is_constant t ≡ false → w ≡ min (weight t) limit_weight → IsInfo at own (term t no_terms) (term_info w own)
    term_known w other is = record {
      sum_is = is ∙ ap (λ n. min n limit_weight) (sym (single_sum t));
      product_is = is ∙ ap (λ n. min n limit_weight) (sym (single_product t));
      factors_are = record {
        others_are = rw other refl;
        low = omega arith;
        counts = λ narrow reading.
            product_other reading t no_terms other ∙ *ℤ_comm (read reading t) (pos 1) ∙ ap (λ z. pos 1 *ℤ z) (sym (own_sum reading));
        weighs = λ narrow. omega (arith, own_weight, single_product t);
      };
    }

    constant_known : (z : ℤ) → IsConstantTerm t z → IsInfo at own (term t no_terms) (constant_info z)
    constant_known z h = record {
      sum_is = ap (λ n. min n limit_weight) (sym (single_sum t ∙ h.weight_is));
      product_is = ap (λ n. min n limit_weight) (sym (single_product t ∙ h.weight_is));
      factors_are = record {
        others_are = rw h.test refl;
        counts = λ narrow reading. product_constant reading t no_terms h.test ∙ rw (h.value, empty_product reading) refl;
        weighs = λ narrow. omega (arith, single_product t, h.weight_is, max_more (unsigned_abs z));
      };
    }

    constant_node : (z : ℤ) → IsConstantTerm t z → IsNumberNode at (term t no_terms) z
    constant_node z h = record { counts = go; weighs = omega (arith, single_sum t, h.weight_is, max_more (unsigned_abs z)) }
      where
        go : (reading : FormReading) → sum_in reading (term t no_terms) ≡ z *ℤ unit_of reading
        go for_constants = h.value ∙ sym (*ℤ_comm z (pos 1) ∙ one-mul z)
        go (for_parts w) = constant_part w t h.test ∙ sym (*ℤ_comm z (pos 0) ∙ zero-*ℤ z)

    pub constant_right : (x : Item) (z : ℤ) → IsConstantTerm t z → IsEntry s v at own x (constant_entry z)
    constant_right x z h =
        entry_of x (term t no_terms) (constant_entry z) e tt (λ narrow. constant_node z h) (constant_known z h) (λ r f. absurd (cc))

    pub number_right : (x : Item) (z : ℤ) → IsNumberTerm t z → IsEntry s v at own x (number_entry z own)
    number_right x z h =
        entry_of x (term t no_terms) (number_entry z own) e tt
        (λ narrow. record { counts = λ reading. sum_one reading t ∙ h.counts reading; weighs = omega (arith, single_sum t, h.weight_is, h.size) })
        (term_known 1 h.none (ap (λ n. min n limit_weight) (sym h.weight_is))) (λ r f. absurd (cc))

    pub opaque_right : (r : ℕ) → IsOpaqueTerm t → RefersTo s v r t → IsEntry s v at own (TermItem r) (opaque_entry r own)
    opaque_right r h refers =
        entry_of (TermItem r) (term t no_terms) (opaque_entry r own) e tt
        (λ narrow. record { one = record { means = t; refers = refers; alone = refl }; counts = λ reading. sum_one reading t ∙ h.counts reading })
        (term_known 1 h.none (ap (λ n. min n limit_weight) (sym h.weight_is))) (λ q f. cc)

    pub sum_right : (x : Item) (us : Terms) (f : Found) → t ≡ operation Op.Plus us → AreSome us → IsMet at own us f → IsEntry s v at own x (sum_entry f own)
    sum_right x us f is filled met =
        let heavy : weight t ≡ weight_sum us = ap weight is ∙ max_filled (weight_sum us) (sum_positive us filled) in
        entry_of x (term t no_terms) (sum_entry f own) e met.below
        (λ narrow. record {
          counts = λ reading. sum_one reading t ∙ ap (read reading) is ∙ plus_read reading us ∙ sym (once_is reading us f met);
          weighs = omega (arith, once_weight us f met, single_sum t, heavy);
        })
        (term_known f.info.sum (ap is_constant is) (met.known.sum_is ∙ ap (λ n. min n limit_weight) (sym heavy))) (λ r g. absurd (cc))

    pub negated_right : (x : Item) (u : Term) (f : Found) → t ≡ operation Op.Minus (term u no_terms) → ((n : ℕ) → u ≢ numeral n) → IsMet at own (term u no_terms) f → IsEntry s v at own x (negated_entry f own)
    negated_right x u f is other met =
        let heavy : weight t ≡ weight_sum (term u no_terms) = ap weight is ∙ max_filled (weight_sum (term u no_terms)) (sum_positive (term u no_terms) tt) in
        entry_of x (term t no_terms) (negated_entry f own) e met.below
        (λ narrow. record {
          counts = λ reading.
              sum_one reading t ∙ ap (read reading) is ∙ negation_read reading u ∙ ap neg_ℤ (sym (sum_one reading u)) ∙ sym (less_is reading (term u no_terms) f met);
          weighs = omega (arith, once_weight (term u no_terms) f met, single_sum t, heavy);
        })
        (term_known f.info.sum (ap is_constant is ∙ minus_other u other) (met.known.sum_is ∙ ap (λ n. min n limit_weight) (sym heavy)))
        (λ r g. absurd (cc))

    pub difference_right : (x : Item) (u : Term) (us : Terms) (f g : Found) → t ≡ operation Op.Minus (term u us) → AreSome us → IsMet at own (term u no_terms) f → IsMet at own us g → IsEntry s v at own x (difference_entry f g own)
    difference_right x u us f g is filled one rest =
        let heavy : weight t ≡ (weight u + 0) + weight_sum us = ap weight is ∙ max_filled (weight u + weight_sum us) (sum_positive (term u us) tt) ∙ plain (weight u) (weight_sum us) in
        entry_of x (term t no_terms) (difference_entry f g own) e (one.below, rest.below)
        (λ narrow. record {
          counts = λ reading.
              let first = once_is reading (term u no_terms) f one in
              let second = less_is reading us g rest in
              omega (
                arith,
                ints,
                sum_one reading t,
                ap (read reading) is,
                difference_first reading u us filled,
                sum_one reading u,
                first,
                second,
              );
          weighs = omega (arith, once_weight (term u no_terms) f one, once_weight us g rest, single_sum t, heavy);
        })
        (term_known (min (f.info.sum + g.info.sum) limit_weight) (ap is_constant is ∙ minus_more u us filled)
        (rw (one.known.sum_is, rest.known.sum_is) (min_sum (weight u + 0) (weight_sum us)) ∙ ap (λ n. min n limit_weight) (sym heavy)))
        (λ r h. absurd (cc))
      where
        plain : (m n : ℕ) → m + n ≡ (m + 0) + n
        plain m n = omega arith

    pub product_right : (r : ℕ) (us : Terms) (f : Found) → t ≡ operation Op.Times us → RefersTo s v r t → IsMet at own us f → IsEntry s v at own (TermItem r) (product_entry r f.info.factors f.info.product own)
    product_right r us f is refers met = go f.info.factors met.known.factors_are
      where
        narrowed : is_linear us ≡ true → weight_sum (term t no_terms) < 2 ^ 127 → weight_product us < 2 ^ 127
        narrowed linear narrow = omega (arith, narrow, single_sum t, ap weight is, times_weight us linear)

        known_is : is_linear us ≡ true → IsInfo at own (term t no_terms) (term_info f.info.product own)
        known_is linear =
            term_known f.info.product (ap is_constant is) (met.known.product_is ∙ ap (λ n. min n limit_weight) (sym (ap weight is ∙ times_weight us linear)))

        reads : is_linear us ≡ true → (reading : FormReading) → sum_in reading (term t no_terms) ≡ product_in reading us
        reads linear reading = sum_one reading t ∙ ap (read reading) is ∙ times_read reading us linear

        heavy : is_linear us ≡ true → weight_sum (term t no_terms) ≡ weight_product us
        heavy linear = single_sum t ∙ ap weight is ∙ times_weight us linear

        go : (fs : Factors) → AreFactors at f.number us fs → IsEntry s v at own (TermItem r) (product_entry r fs f.info.product own)
        go (Constants n) h =
            let linear = linear_is us (omega (arith, h.others_are)) in
            entry_of (TermItem r) (term t no_terms) _ e tt
            (λ narrow. record {
              counts = λ reading. reads linear reading ∙ h.counts (narrowed linear narrow) reading;
              weighs = omega (arith, heavy linear, h.weighs (narrowed linear narrow));
            }) (known_is linear) (λ q g. absurd (cc))
        go (Single p) h =
            let linear = linear_is us (omega (arith, h.others_are)) in
            entry_of (TermItem r) (term t no_terms) _ e (omega (arith, h.low, met.below))
            (λ narrow. record {
              counts = λ reading. reads linear reading ∙ h.counts (narrowed linear narrow) reading;
              weighs = omega (arith, heavy linear, h.weighs (narrowed linear narrow));
            }) (known_is linear) (λ q g. absurd (cc))
        go Many h =
            opaque_right r (subst IsOpaqueTerm (sym is) (times_opaque us (nonlinear_is us h))) refers

  -- lists
  info_higher : (k : ℕ) (ts : Terms) (info : Info) → k ≤ own → IsInfo at k ts info → IsInfo at own ts info
  info_higher k ts info h x = record { sum_is = x.sum_is; product_is = x.product_is; factors_are = go info.factors x.factors_are }
    where
      go : (fs : Factors) → AreFactors at k ts fs → AreFactors at own ts fs
      go (Constants n) y = y
      go (Single p) y = record { others_are = y.others_are; low = omega (arith, y.low, h); counts = y.counts; weighs = y.weighs }
      go Many y = y

  pub single_right : (r : ℕ) (t : Term) (f : Found) → at own ≡ term t no_terms → IsMet at own (term t no_terms) f → IsEntry s v at own (ListItem r) (single_entry f)
  single_right r t f e met =
      entry_of (ListItem r) (term t no_terms) (single_entry f) e met.below
      (λ narrow. record {
        counts = λ reading. sym (once_is reading (term t no_terms) f met);
        weighs = omega (arith, once_weight (term t no_terms) f met);
      }) (info_higher f.number (term t no_terms) f.info (omega (arith, met.below)) met.known) (λ q g. absurd (cc))

  pub pair_right : (r : ℕ) (t : Term) (ts : Terms) (f g : Found) → at own ≡ term t ts → IsMet at own (term t no_terms) f → IsMet at own ts g → IsEntry s v at own (ListItem r) (pair_entry f g)
  pair_right r t ts f g e one rest =
      entry_of (ListItem r) (term t ts) (pair_entry f g) e (one.below, rest.below)
      (λ narrow. record {
        counts = λ reading.
            omega (arith, ints, sum_first reading t ts, sum_one reading t, once_is reading (term t no_terms) f one, once_is reading ts g rest);
        weighs = omega (arith, once_weight (term t no_terms) f one, once_weight ts g rest);
      })
      (info_joined at own t ts f.info g.info f.number g.number (omega (arith, one.below)) (omega (arith, rest.below)) one.known rest.known)
      (λ q h. absurd (cc))
