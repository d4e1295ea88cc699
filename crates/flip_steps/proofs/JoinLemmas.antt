-- Private. Two terms with one form are joined.
use Rattle.std.proofs.Common.{◌≡◌, ◌≤◌, ◌⊎◌, inl, inr, ℕ, List, Option, Some, None, refl, sym, ◌∙◌, subst, arith}
use Rattle.pair_pool.specs.Views.{IsOneToOne}
use Rattle.proof_store.specs.AddedSteps.{AddedStep}
use Rattle.proof_store.specs.declared.added.Link.{Link}
use Rattle.sym_table.specs.Table.{Table, IsTable}
use Rattle.term_model.specs.Flips.{equality, EqualUpToFlips}
use Rattle.term_model.specs.Terms.{Term}
use Rattle.term_pool.specs.Views.{TermsView, KeepsTerms, RefersTo}
use Rattle.term_pool.proofs.ReadingLemmas.{keeps-same}
use Rattle.term_pool.proofs.TermLemmas.{equal_where}
use Rattle.equality_steps.specs.Links.{LinkEquates}
use Rattle.equality_steps.specs.Sites.{AreSidesAt, IsTermAt}
use Rattle.equality_steps.specs.declared.site.Site.{Site}
use Rattle.flip_steps.specs.declared.forms.Formed.{Formed}
use Rattle.flip_steps.specs.declared.forms.Forms.{Forms}
use Rattle.flip_steps.specs.Memory.{IsCellWithin, IsEquatedBy, IsFormedAs, IsRemembered, MeetsWithin}
use Rattle.flip_steps.specs.Remembering.{GrowsBy}
use Rattle.flip_steps.specs.Stages.{StandsBefore, itself, formed, equated, IsMadeFrom, IsEqualityOf, IsMadeToJoin}
use Rattle.flip_steps.specs.Subterms.{whole}
use Rattle.flip_steps.specs.Walks.{MeetsFrom}
use Rattle.flip_steps.proofs.FormLemmas.{one_form}
use Rattle.flip_steps.proofs.OrderLemmas.{form_later, references_antisymmetric, refers_later, stands_later}
use Rattle.flip_steps.proofs.UnitLemmas.{units_more}

-- what is made from a term to turn its equality round
pub made_back : (p : Site) (v w : TermsView) (steps : List AddedStep) (r : ℕ) (x : Formed) → KeepsTerms v w → (h : IsFormedAs p v steps r x)
    → IsMadeFrom p.symbols.now w r (equality h.form h.term)
made_back p v w steps r x keeps h =
    let there = refers_later p.symbols.now v w r h.term keeps h.refers in
    record {
      from = r;
      stands = record { whole = h.term; whole_refers = there; term = h.term; refers = there; within = whole };
      made = record {
        term = h.term;
        refers = there;
        made = equated h.form h.term (formed h.form (form_later p.symbols.now v w keeps.pass.grows h.term h.form h.is)) itself;
      };
    }

pub made_whole : (s : Table) (v w : TermsView) (a b : ℕ) (t u : Term) → KeepsTerms v w → RefersTo s v a t → RefersTo s v b u
    → IsEqualityOf s w a b (equality t u)
made_whole s v w a b t u keeps left right = record {
  left = t;
  right = u;
  left_refers = refers_later s v w a t keeps left;
  right_refers = refers_later s v w b u keeps right;
  is = refl;
}

-- it is made to join two terms
pub join_left : (s : Table) (v : TermsView) (a b : ℕ) (x : Term) → IsMadeFrom s v a x → IsMadeToJoin s v a b x
join_left s v a b x h = inl (inl h)

pub join_right : (s : Table) (v : TermsView) (a b : ℕ) (x : Term) → IsMadeFrom s v b x → IsMadeToJoin s v a b x
join_right s v a b x h = inl (inr h)

pub join_both : (s : Table) (v : TermsView) (a b : ℕ) (x : Term) → IsEqualityOf s v a b x → IsMadeToJoin s v a b x
join_both s v a b x h = inr h

-- what is known of two terms with one form
pub one_reference : (p : Site) (v : TermsView) (steps : List AddedStep) → IsTable p.symbols.now → IsOneToOne v.pass → (a b : ℕ) (left right : Formed)
    → IsFormedAs p v steps a left → IsFormedAs p v steps b right
    → ((t u : Term) → RefersTo p.symbols.now v a t → RefersTo p.symbols.now v b u → EqualUpToFlips t u) → left.form ≡ right.form
one_reference p v steps table one a b left right h k equal =
    let same = one_form (StandsBefore p.symbols.now v) (references_antisymmetric p.symbols.now v table one) h.term k.term h.form k.form
    (equal h.term k.term h.refers k.refers) h.is k.is in
    (equal_where p.symbols.now v table one left.form right.form h.form k.form h.form_refers k.form_refers).1 same

-- the one link, where the other is not there
pub linked_left : (p : Site) (v : TermsView) (steps : List AddedStep) (a b : ℕ) (left right : Formed) → IsFormedAs p v steps a left
    → IsFormedAs p v steps b right
    → left.form ≡ right.form → right.link ≡ None → IsEquatedBy p v steps left.link a b
linked_left p v steps a b left right h k same none =
    let here : b ≡ right.form = subst (λ (l : Option Link). IsEquatedBy p v steps l b right.form) none k.link in
    subst (λ x. IsEquatedBy p v steps left.link a x) (same ∙ sym here) h.link

pub alone_left : (p : Site) (v : TermsView) (steps : List AddedStep) (a : ℕ) (left : Formed) → IsFormedAs p v steps a left → left.link ≡ None → a ≡ left.form
alone_left p v steps a left h none = subst (λ (l : Option Link). IsEquatedBy p v steps l a left.form) none h.link

pub link_left : (p : Site) (v : TermsView) (steps : List AddedStep) (a : ℕ) (left : Formed) (link : Link) → IsFormedAs p v steps a left → left.link ≡ Some link
    → LinkEquates p v steps link a left.form
link_left p v steps a left link h some = (subst (λ (l : Option Link). IsEquatedBy p v steps l a left.form) some h.link).1

pub formed_as : (p : Site) (v : TermsView) (steps : List AddedStep) (r : ℕ) (x : Formed) (link : Link) → x.link ≡ Some link → IsFormedAs p v steps r x
    → IsFormedAs p v steps r (record { form = x.form; link = Some link })
formed_as p v steps r x link some h = record {
  term = h.term;
  form = h.form;
  refers = h.refers;
  form_refers = h.form_refers;
  is = h.is;
  link = subst (λ (l : Option Link). IsEquatedBy p v steps l r x.form) some h.link;
}

-- what was met of both terms
cell_later : (s : Table) (v w : TermsView) (root r : ℕ) → KeepsTerms v w → IsCellWithin s v root r → IsCellWithin s w root r
cell_later s v w root r keeps h = record { cell = h.cell; stands = stands_later s v w keeps root r h.stands }

pub met_both : (s : Table) (v w : TermsView) (a b : ℕ) (first second third : Forms) → KeepsTerms v w → MeetsFrom s v a first second
    → MeetsFrom s w b second third
    → (x : TermsView) → KeepsTerms w x → MeetsWithin s x a b first third
met_both s v w a b first second third keeps h k x more r remembered = go (k r remembered)
  where
    earlier : IsRemembered first r ⊎ IsCellWithin s v a r → IsRemembered first r ⊎ (IsCellWithin s x a r ⊎ IsCellWithin s x b r)
    earlier (inl z) = inl z
    earlier (inr z) = inr (inl (cell_later s w x a r more (cell_later s v w a r keeps z)))

    go : IsRemembered second r ⊎ IsCellWithin s w b r → IsRemembered first r ⊎ (IsCellWithin s x a r ⊎ IsCellWithin s x b r)
    go (inl z) = earlier (h r z)
    go (inr z) = inr (inr (cell_later s w x b r more z))

-- sides as terms
pub left_side : (p : Site) (v : TermsView) (a b : ℕ) → AreSidesAt p v a b → IsTermAt p v a
left_side p v a b h = record { sort = h.sides.sort; term = h.left; refers = h.left_refers; fits = h.sides.left }

pub right_side : (p : Site) (v w : TermsView) (a b : ℕ) → KeepsTerms v w → AreSidesAt p v a b → IsTermAt p w b
right_side p v w a b keeps h =
    record { sort = h.sides.sort; term = h.right; refers = refers_later p.symbols.now v w b h.right keeps h.right_refers; fits = h.sides.right }

pub equal_later : (s : Table) (v w : TermsView) → IsTable s → IsOneToOne w.pass → KeepsTerms v w → (a b : ℕ) (t u x y : Term) → RefersTo s v a t
    → RefersTo s v b u
    → EqualUpToFlips t u → RefersTo s w a x → RefersTo s w b y → EqualUpToFlips x y
equal_later s v w table one keeps a b t u x y left right equal here there =
    let e = (equal_where s w table one a a t x (refers_later s v w a t keeps left) here).0 refl in
    let d = (equal_where s w table one b b u y (refers_later s v w b u keeps right) there).0 refl in
    subst (λ z. EqualUpToFlips z y) e (subst (EqualUpToFlips t) d equal)

-- the same steps are of a kind that takes in theirs
pub grows_as : (p : Site) (v : TermsView) (old new : List AddedStep) (P Q : Term → Type 0) (m n : ℕ) → ((x : Term) → P x → Q x) → m ≤ n
    → GrowsBy p v old new P m
    → GrowsBy p v old new Q n
grows_as p v old new P Q m n more low h = record {
  block = h.block;
  units = units_more p v v old new P Q (keeps-same v v refl) more h.units;
  few = let f = h.few in omega (arith, f, low);
}
