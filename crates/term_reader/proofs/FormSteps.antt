-- Forms and bindings where nodes stand, one after another.
use Rattle.std.proofs.Common.{◌≡◌, ℕ, ◌+◌, ◌<◌, ◌≤◌, ◌≢◌, arith, length, refl, ap, ◌∙◌}
use Rattle.text_items.specs.ItemShapes.{Name}
use Rattle.text_items.specs.ItemsAt.{ItemsView, end_at}
use Rattle.problem_text.specs.Forms.{Form, no_forms, form, LetBinds, no_binds, bind, form_of, forms_of}
use Rattle.text_items.specs.Stepping.{name_in, IsSymbolAt}
use Rattle.term_reader.specs.Layers.{IsRange, form_at, forms_at, AreBinds}
use Rattle.text_items.proofs.ItemsAtLemmas.{ends_behind, items_are, no_items_are}

-- no more forms
pub forms_done : (items : ItemsView) (k m : ℕ) → k ≡ m → forms_at items k m ≡ no_forms
unfolding form_of
forms_done items k m e = ap forms_of (no_items_are items k m (omega arith))

-- one form, and the others
pub forms_more : (items : ItemsView) (k m : ℕ) → IsRange items k m → k < m → forms_at items k m ≡ form (form_at items k) (forms_at items (end_at items k) m)
unfolding form_of
forms_more items k m range less = ap forms_of (items_are items k m less range.inside)

pub range_on : (items : ItemsView) (k m : ℕ) → IsRange items k m → k < m → IsRange items (end_at items k) m
range_on items k m range less =
    let later = ends_behind items k in
    record { before = range.nested k (omega arith) less; inside = range.inside; nested = λ j from to. range.nested j (omega arith) to }

pub binds_ordered : (items : ItemsView) (k : ℕ) (bs : LetBinds) (m : ℕ) → AreBinds items k bs m → k ≤ m
binds_ordered items k no_binds m e = omega arith
binds_ordered items k (bind x f bs) m (named, called, inside, is, rest) = omega (arith, ends_behind items (k + 2), binds_ordered items (end_at items (k + 2)) bs m rest)

-- no more bindings
pub binds_done : (items : ItemsView) (k : ℕ) (bs : LetBinds) (m : ℕ) → AreBinds items k bs m → k ≡ m → bs ≡ no_binds
binds_done items k no_binds m are e = refl
binds_done items k (bind x f bs) m (named, called, inside, is, rest) e = absurd (omega (arith, ends_behind items (k + 2), binds_ordered items (end_at items (k + 2)) bs m rest))

-- one binding, and the others
pub record AreMoreBinds (items : ItemsView) (k : ℕ) (bs : LetBinds) (m : ℕ) : Type 0 where
  pub others : LetBinds
  pub split : bs ≡ bind (name_in items (k + 1)) (form_at items (k + 2)) others
  pub named : IsSymbolAt items (k + 1)
  pub inside : k + 2 < length items.nodes
  pub there : AreBinds items (end_at items (k + 2)) others m

pub binds_more : (items : ItemsView) (k : ℕ) (bs : LetBinds) (m : ℕ) → AreBinds items k bs m → k ≢ m → AreMoreBinds items k bs m
binds_more items k no_binds m are differs = absurd (differs are)
binds_more items k (bind x f bs) m (named, called, inside, is, rest) differs =
    record { others = bs; split = ap (λ (y : Name). bind y f bs) called ∙ ap (λ (g : Form). bind (name_in items (k + 1)) g bs) is; named = named; inside = inside; there = rest }
