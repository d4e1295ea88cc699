-- Attributes as most steps have them, a rule and at most one list behind it, have no fault.
use Rattle.std.proofs.Common.{◌≡◌, ◌<◌, ◌≤◌, ℕ, ◌∙◌, Bool, true, false, cond, List, length, Option, Some, None, refl, sym, ap, subst}
use Rattle.std.specs.Prelude.{codes, bytes_eq}
use Rattle.std.proofs.lemmas.Slice.Eq.{bytes_eq-Decides}
use Rattle.sexpr.specs.Items.{Item, Items, no_items, item}
use Rattle.text_items.specs.ItemShapes.{symbol_fault}
use Rattle.text_items.specs.Keywords.{keyword_of, wanted_fault, attributes_fault}
use Rattle.text_items.specs.declared.nodes.Node.{Node}
use Rattle.text_items.specs.ItemsAt.{ItemsView, item_at, items_at}
use Rattle.text_items.specs.Stepping.{IsItemNode}
use Rattle.text_items.proofs.ItemsAtLemmas.{first_and_others}
use Rattle.alethe_text.specs.Commands.{step_keywords}
use Rattle.alethe_commands.specs.declared.attributes.AttributeWord.{AttributeWord}
use Rattle.alethe_commands.specs.CommandShapes.{attribute_word}
use Rattle.alethe_commands.specs.UsualAttributes.{wants, is_rule, IsAttribute, IsOneList}
use Rattle.alethe_commands.proofs.AttributesByNodes.{value_plain}

-- how a word is spelled
abbrev spelling_of : AttributeWord → List ℕ
spelling_of AttributeWord.Rule = codes ":rule"
spelling_of AttributeWord.Premises = codes ":premises"
spelling_of AttributeWord.Arguments = codes ":args"
spelling_of AttributeWord.Discharge = codes ":discharge"

spelled : (keyword : Option (List ℕ)) (w : AttributeWord) → attribute_word keyword ≡ Some w → keyword ≡ Some (spelling_of w)
spelled None w e = cc
spelled (Some name) w e =
    go (bytes_eq (codes ":rule") name) (bytes_eq (codes ":premises") name) (bytes_eq (codes ":args") name) (bytes_eq (codes ":discharge") name)
    (λ h. sym ((bytes_eq-Decides (codes ":rule") name).0 h)) (λ h. sym ((bytes_eq-Decides (codes ":premises") name).0 h))
    (λ h. sym ((bytes_eq-Decides (codes ":args") name).0 h)) (λ h. sym ((bytes_eq-Decides (codes ":discharge") name).0 h)) w e
  where
    go : (a b c d : Bool) → (a ≡ true → name ≡ codes ":rule") → (b ≡ true → name ≡ codes ":premises") → (c ≡ true → name ≡ codes ":args") → (d ≡ true → name ≡ codes ":discharge")
        → (w : AttributeWord) → cond a (Some AttributeWord.Rule) (cond b (Some AttributeWord.Premises) (cond c (Some AttributeWord.Arguments) (cond d (Some AttributeWord.Discharge) None))) ≡ Some w
        → Some name ≡ Some (spelling_of w)
    go true b c d p q r s AttributeWord.Rule e = ap Some (p refl)
    go true b c d p q r s AttributeWord.Premises e = cc
    go true b c d p q r s AttributeWord.Arguments e = cc
    go true b c d p q r s AttributeWord.Discharge e = cc
    go false true c d p q r s AttributeWord.Rule e = cc
    go false true c d p q r s AttributeWord.Premises e = ap Some (q refl)
    go false true c d p q r s AttributeWord.Arguments e = cc
    go false true c d p q r s AttributeWord.Discharge e = cc
    go false false true d p q r s AttributeWord.Rule e = cc
    go false false true d p q r s AttributeWord.Premises e = cc
    go false false true d p q r s AttributeWord.Arguments e = ap Some (r refl)
    go false false true d p q r s AttributeWord.Discharge e = cc
    go false false false true p q r s AttributeWord.Rule e = cc
    go false false false true p q r s AttributeWord.Premises e = cc
    go false false false true p q r s AttributeWord.Arguments e = cc
    go false false false true p q r s AttributeWord.Discharge e = ap Some (s refl)
    go false false false false p q r s w e = cc

alone : (place : ℕ) (r v : Item) → keyword_of r ≡ Some (codes ":rule") → keyword_of v ≡ None → symbol_fault v ≡ None → attributes_fault step_keywords place (item r (item v no_items)) ≡ None
alone place r v word plain fits = rw (word, plain, fits) refl

with_list : (place : ℕ) (r v j l : Item) (w : AttributeWord) → is_rule w ≡ false → keyword_of r ≡ Some (codes ":rule") → keyword_of v ≡ None → symbol_fault v ≡ None
    → keyword_of j ≡ Some (spelling_of w) → keyword_of l ≡ None → wanted_fault (wants w) l ≡ None → attributes_fault step_keywords place (item r (item v (item j (item l no_items)))) ≡ None
with_list place r v j l AttributeWord.Rule other word plain fits more bare listed = cc
with_list place r v j l AttributeWord.Premises other word plain fits more bare listed = rw (word, plain, fits, more, bare, listed) refl
with_list place r v j l AttributeWord.Arguments other word plain fits more bare listed = rw (word, plain, fits, more, bare, listed) refl
with_list place r v j l AttributeWord.Discharge other word plain fits more bare listed = rw (word, plain, fits, more, bare, listed) refl

pub rule_alone : (place : ℕ) (r v : Item) (rest : Items) → IsAttribute AttributeWord.Rule r v → rest ≡ no_items → attributes_fault step_keywords place (item r (item v rest)) ≡ None
rule_alone place r v rest h none = subst (λ xs. attributes_fault step_keywords place (item r (item v xs)) ≡ None) (sym none) (alone place r v (spelled (keyword_of r) AttributeWord.Rule h.word) (value_plain AttributeWord.Rule v h.fits) h.fits)

pub rule_with_list : (place : ℕ) (r v : Item) (rest : Items) → IsAttribute AttributeWord.Rule r v → IsOneList rest → attributes_fault step_keywords place (item r (item v rest)) ≡ None
rule_with_list place r v rest h l =
    subst (λ xs. attributes_fault step_keywords place (item r (item v xs)) ≡ None) (sym l.split)
    (with_list place r v l.keyword l.value l.word l.other (spelled (keyword_of r) AttributeWord.Rule h.word) (value_plain AttributeWord.Rule v h.fits) h.fits
    (spelled (keyword_of l.keyword) l.word l.is.word) (value_plain l.word l.value l.is.fits) l.is.fits)

-- the first two items by their nodes, and what stands behind them
pub two_items : (items : ItemsView) (k m : ℕ) (first second : Node) → IsItemNode items k first → IsItemNode items first.next second → k < m → first.next < m → m ≤ length items.nodes
    → items_at items k m ≡ item (item_at items k) (item (item_at items first.next) (items_at items second.next m))
two_items items k m first second read reads_on some more inside =
    first_and_others items k m first read some inside ∙ ap (item (item_at items k)) (first_and_others items first.next m second reads_on more inside)
