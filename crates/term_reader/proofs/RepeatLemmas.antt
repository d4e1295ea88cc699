-- The first pair of a let whose variable may not be bound.
use Rattle.std.proofs.Common.{◌≡◌, ℕ, ◌+◌, ◌<◌, ◌≤◌, ◌≢◌, arith, List, [], ◌∷◌, length, ◌||◌, refl, sym, ap, ◌∙◌, subst, Bool, true, false}
use Rattle.std.specs.Prelude.{bytes_eq}
use Rattle.std.specs.List.{Contains}
use Rattle.std.specs.Cmp.Lexicographic.{nat_list_eq_equiv}
use Rattle.std.proofs.lemmas.Slice.Eq.{bytes_eq-Decides}
use Rattle.std.proofs.lemmas.Map.Views.{Contains-from_any, list_any-from_Contains}
use denote.Bor.{Bor}
use Rattle.text_items.specs.ItemShapes.{Name}
use Rattle.problem_text.specs.Forms.{Form, LetBinds, no_binds, bind}
use Rattle.problem_text.specs.Words.{is_among, is_built_in}
use Rattle.text_items.specs.ItemsAt.{ItemsView, end_at}
use Rattle.text_items.specs.Stepping.{name_in, IsSymbolAt}
use Rattle.term_reader.specs.Layers.{form_at, AreBinds}
use Rattle.term_reader.specs.Shapes.{IsFirstRepeat}
use Rattle.term_reader.specs.ShapeFaults.{has_name}
use Rattle.term_reader.proofs.FormSteps.{AreMoreBinds, binds_more, binds_done, binds_ordered}
use Rattle.text_items.proofs.ItemsAtLemmas.{ends_behind}
use Rattle.term_model.proofs.Basics.{same_tests}

pub among_from_words : (words : List (List ℕ)) (name : List ℕ) (answer : Bool) → (answer ≡ true → Contains words name) → (Contains words name → answer ≡ true) → answer ≡ is_among words name
among_from_words words name answer there back =
    same_tests answer (is_among words name) (λ h. list_any-from_Contains {eq = bytes_eq} nat_list_eq_equiv name words (there h))
    (λ h. back (Contains-from_any {eq = bytes_eq} (λ x y. (bytes_eq-Decides x y).0) name words h))

-- whether a name may not be bound after those
abbrev pub is_refused : List (List ℕ) → List ℕ → Bool
is_refused earlier name = is_built_in name || is_among earlier name

module _ (items : ItemsView) (k : ℕ) (earlier : List (List ℕ)) (x : Name) (f : Form) (bs : LetBinds) where
  abbrev next : ℕ
  next = end_at items (k + 2)

  both : {b : Bool} → b ≡ true → b ≡ false → ⊥
  both g e = cc

  pub repeat_stop : (m : ℕ) → is_refused earlier x.name ≡ true → IsFirstRepeat items k earlier (bind x f bs) k m
  repeat_stop m h = (λ e. refl, λ e. absurd (both h e))

  pub repeat_pass : (place m : ℕ) → is_refused earlier x.name ≡ false → IsFirstRepeat items next (x.name ∷ earlier) bs place m → IsFirstRepeat items k earlier (bind x f bs) place m
  repeat_pass place m h later = (λ e. absurd (both e h), λ e. later)

-- The bindings from node k on, up to m, are what is left of these, and the slices have the names of those before them. The
-- first that may not be bound is the first of the whole.
pub record IsLeft (items : ItemsView) (first k m : ℕ) (slices : List (Bor (List ℕ))) (whole : LetBinds) : Type 0 where
  pub earlier : List (List ℕ)
  pub rest : LetBinds
  pub there : AreBinds items k rest m
  pub names : (q : List ℕ) → has_name slices q ≡ is_among earlier q
  pub back : (place : ℕ) → IsFirstRepeat items k earlier rest place m → IsFirstRepeat items first [] whole place m

abbrev pub AreLeft : ItemsView → ℕ → ℕ → ℕ → List (Bor (List ℕ)) → Type 0
AreLeft items first k m slices = (bs : LetBinds) → AreBinds items first bs m → IsLeft items first k m slices bs

pub left_start : (items : ItemsView) (first m : ℕ) (slices : List (Bor (List ℕ))) → slices ≡ [] → AreLeft items first first m slices
left_start items first m slices none bs are = record { earlier = []; rest = bs; there = are; names = λ q. ap (λ v. has_name v q) none; back = λ place h. h }

module _ (items : ItemsView) (first k m : ℕ) (slices : List (Bor (List ℕ))) (whole : LetBinds) (l : IsLeft items first k m slices whole) where
  pub left_end : k ≡ m → IsFirstRepeat items first [] whole m m
  left_end same = l.back m (subst (λ (v : LetBinds). IsFirstRepeat items k l.earlier v m m) (sym (binds_done items k l.rest m l.there same)) refl)

  -- the variable of the next pair has this name, as the code says it
  module _ (differs : k ≢ m) (name : List ℕ) (is : name ≡ (name_in items (k + 1)).name) (repeated : Bool) (e : repeated ≡ (is_built_in name || has_name slices name)) where
    a : AreMoreBinds items k l.rest m
    a = binds_more items k l.rest m l.there differs

    refused_here : repeated ≡ is_refused l.earlier (name_in items (k + 1)).name
    refused_here = e ∙ ap (λ b. is_built_in name || b) (l.names name) ∙ ap (is_refused l.earlier) is

    pub left_stop : repeated ≡ true → IsFirstRepeat items first [] whole k m
    left_stop holds = l.back k (subst (λ (v : LetBinds). IsFirstRepeat items k l.earlier v k m) (sym a.split) (repeat_stop items k l.earlier (name_in items (k + 1)) (form_at items (k + 2)) a.others m (sym refused_here ∙ holds)))

    pub left_on : (put : List (Bor (List ℕ))) → repeated ≡ false → ((q : List ℕ) → has_name put q ≡ (bytes_eq q name || has_name slices q)) → IsLeft items first (end_at items (k + 2)) m put whole
    left_on put fails puts = record {
      earlier = (name_in items (k + 1)).name ∷ l.earlier;
      rest = a.others;
      there = a.there;
      names = λ q. puts q ∙ ap (λ b. bytes_eq q name || b) (l.names q) ∙ ap (λ v. bytes_eq q v || is_among l.earlier q) is;
      back =
          λ place later. l.back place (subst (λ (v : LetBinds). IsFirstRepeat items k l.earlier v place m) (sym a.split)
          (repeat_pass items k l.earlier (name_in items (k + 1)) (form_at items (k + 2)) a.others place m (sym refused_here ∙ fails) later));
    }

-- what is said of the pair at k where bindings are left
pub record HasPair (items : ItemsView) (k m : ℕ) : Type 0 where
  pub named : IsSymbolAt items (k + 1)
  pub inside : k + 2 < length items.nodes
  pub later : k < end_at items (k + 2)
  pub before : end_at items (k + 2) ≤ m
  pub others : (bs : LetBinds) × AreBinds items (end_at items (k + 2)) bs m

pub pair_there : (items : ItemsView) (k m : ℕ) → (bs : LetBinds) × AreBinds items k bs m → k ≢ m → HasPair items k m
pair_there items k m (bs, are) differs =
    let a = binds_more items k bs m are differs in
    record {
      named = a.named;
      inside = a.inside;
      later = omega (arith, ends_behind items (k + 2));
      before = binds_ordered items (end_at items (k + 2)) a.others m a.there;
      others = (a.others, a.there);
    }

-- no bindings, and one alone
pub none_repeated : (items : ItemsView) (k m : ℕ) (bs : LetBinds) → AreBinds items k bs m → k ≡ m → IsFirstRepeat items k [] bs m m
none_repeated items k m bs are e = subst (λ (v : LetBinds). IsFirstRepeat items k [] v m m) (sym (binds_done items k bs m are e)) refl

pub one_repeated : (items : ItemsView) (k m : ℕ) (bs : LetBinds) (place : ℕ) → AreBinds items k bs m → k ≢ m → end_at items (k + 2) ≡ m
    → ((f : Form) → end_at items (k + 2) ≡ m → IsFirstRepeat items k [] (bind (name_in items (k + 1)) f no_binds) place m) → IsFirstRepeat items k [] bs place m
one_repeated items k m bs place are differs last told =
    let a = binds_more items k bs m are differs in
    let none = binds_done items (end_at items (k + 2)) a.others m a.there last in
    subst (λ (v : LetBinds). IsFirstRepeat items k [] v place m) (sym (a.split ∙ ap (bind (name_in items (k + 1)) (form_at items (k + 2))) none)) (told (form_at items (k + 2)) last)

pub only_stop : (items : ItemsView) (k m : ℕ) (x : Name) (f : Form) (built_in : Bool) → built_in ≡ is_built_in x.name → built_in ≡ true → IsFirstRepeat items k [] (bind x f no_binds) k m
only_stop items k m x f built_in e holds = repeat_stop items k [] x f no_binds m (ap (λ b. b || false) (sym e ∙ holds))

pub only_pass : (items : ItemsView) (k m : ℕ) (x : Name) (f : Form) (built_in : Bool) → end_at items (k + 2) ≡ m → built_in ≡ is_built_in x.name → built_in ≡ false
    → IsFirstRepeat items k [] (bind x f no_binds) m m
only_pass items k m x f built_in last e fails = repeat_pass items k [] x f no_binds m m (ap (λ b. b || false) (sym e ∙ fails)) refl

-- Stepping over a repeat: it lies among the bindings; at its place the first of them may not be bound, and before it none is
-- refused.
pub repeat_ordered : (items : ItemsView) (k : ℕ) (earlier : List (List ℕ)) (bs : LetBinds) (place m : ℕ) → AreBinds items k bs m → IsFirstRepeat items k earlier bs place m → (k ≤ place) × (place ≤ m)
repeat_ordered items k earlier no_binds place m are h = (omega arith, omega arith)
repeat_ordered items k earlier (bind x f bs) place m (named, called, inside, is, rest) (stops, passes) =
    go (is_refused earlier x.name) refl (λ h. repeat_ordered items (end_at items (k + 2)) (x.name ∷ earlier) bs place m rest h)
  where
    later : k < end_at items (k + 2)
    later = omega (arith, ends_behind items (k + 2))

    go : (b : Bool) → is_refused earlier x.name ≡ b → (IsFirstRepeat items (end_at items (k + 2)) (x.name ∷ earlier) bs place m → (end_at items (k + 2) ≤ place) × (place ≤ m)) → (k ≤ place) × (place ≤ m)
    go true e on = let at = stops e in (omega arith, omega (arith, later, binds_ordered items (end_at items (k + 2)) bs m rest))
    go false e on = let r = on (passes e) in (omega (arith, later, r.0), r.1)

pub repeat_here : (items : ItemsView) (k : ℕ) (earlier : List (List ℕ)) (x : Name) (f : Form) (bs : LetBinds) (m : ℕ) → AreBinds items k (bind x f bs) m
    → IsFirstRepeat items k earlier (bind x f bs) k m → is_refused earlier x.name ≡ true
repeat_here items k earlier x f bs m (named, called, inside, is, rest) (stops, passes) = go (is_refused earlier x.name) refl
  where
    go : (b : Bool) → is_refused earlier x.name ≡ b → is_refused earlier x.name ≡ true
    go true e = e
    go false e = absurd (omega (arith, ends_behind items (k + 2), (repeat_ordered items (end_at items (k + 2)) (x.name ∷ earlier) bs k m rest (passes e)).0))

pub repeat_on : (items : ItemsView) (k : ℕ) (earlier : List (List ℕ)) (x : Name) (f : Form) (bs : LetBinds) (place m : ℕ)
    → IsFirstRepeat items k earlier (bind x f bs) place m → k ≢ place → (is_refused earlier x.name ≡ false) × IsFirstRepeat items (end_at items (k + 2)) (x.name ∷ earlier) bs place m
repeat_on items k earlier x f bs place m (stops, passes) differs = go (is_refused earlier x.name) refl
  where
    go : (b : Bool) → is_refused earlier x.name ≡ b → (is_refused earlier x.name ≡ false) × IsFirstRepeat items (end_at items (k + 2)) (x.name ∷ earlier) bs place m
    go true e = absurd (differs (sym (stops e)))
    go false e = (e, passes e)
