-- The names that are left after some of those that attributes give.
use Rattle.std.proofs.Common.{◌≡◌, ℕ, Bool, true, false, List, [], ◌∷◌, Option, Some, None, is_some, IfNone, Ok, Err, refl, ◌∙◌, ap}
use Rattle.sym_table.specs.Table.{Table}
use Rattle.term_pool.specs.Views.{TermsView}
use Rattle.text_items.specs.ItemShapes.{Name}
use Rattle.term_names.specs.Known.{KnownView}
use Rattle.text_items.specs.Stepping.{name_in}
use Rattle.term_reader.specs.Layers.{names_at}
use Rattle.term_reader.specs.Naming.{GivesNames, IsFreeIn}
use Rattle.problem_text.specs.TypedTerms.{Typed}
use Rattle.problem_text.specs.Outcomes.{Outcome, done}
use Rattle.problem_text.specs.Scripts.{Script, is_taken}
use Rattle.term_reader.specs.Shapes.{IsFirstName}
use Rattle.term_names.specs.Standing.{IsScript}
use Rattle.problem_text.specs.Terms.{with_names}
use Rattle.term_names.specs.declared.faults.ReadFault.{ReadFault}
use Rattle.text_items.specs.ItemsAt.{ItemsView}
use Rattle.term_expansion.specs.declared.values.Value.{Value}
use Rattle.term_reader.proofs.GivenNames.{one_name}
use Rattle.term_expansion.specs.SymbolsAndTerms.{both}

-- The names from node k on are left, and the term with them comes to the whole.
pub record IsLeft (s : Table) (v : TermsView) (items : ItemsView) (k m : ℕ) (known : KnownView) (t : Typed) (whole : Outcome Script Typed) : Type 0 where
  pub script : Script
  pub is : IsScript (both s v) known script
  pub same : whole ≡ with_names t (names_at items k m) script

abbrev pub AreLeft : ItemsView → Value → List ℕ → ℕ → ℕ → ℕ → KnownView → KnownView → Type 0
AreLeft items c free first k m start now =
    (s : Table) (v : TermsView) (t : Typed) (sc : Script) → IsFreeIn (both s v) c free t → IsScript (both s v) start sc
    → IsLeft s v items k m now t (with_names t (names_at items first m) sc)

pub left_start : (items : ItemsView) (c : Value) (free : List ℕ) (first m : ℕ) (known : KnownView) → AreLeft items c free first first m known known
left_start items c free first m known = λ s v t sc has is. record { script = sc; is = is; same = refl }

module _ (s : Table) (v : TermsView) (items : ItemsView) (k m : ℕ) (known : KnownView) (t : Typed) (whole : Outcome Script Typed)
    (left : IsLeft s v items k m known t whole) where
  pub left_end : names_at items k m ≡ [] → GivesNames (both s v) known t whole (Ok tt)
  left_end none = (left.script, left.same ∙ ap (λ names. with_names t names left.script) none, left.is)

  -- the next name
  module _ (at : ℕ) (new : KnownView) (first : IsFirstName items k at m) where
    abbrev next : Name
    next = name_in items at

    abbrev rest : List Name
    rest = names_at items at m

    split : whole ≡ with_names t (next ∷ rest) left.script
    split = left.same ∙ ap (λ names. with_names t names left.script) first.split

    pub left_stop : (fault : ReadFault) → ((sc : Script) → IsScript (both s v) known sc → GivesNames (both s v) new t (with_names t (next ∷ []) sc) (Err fault))
        → GivesNames (both s v) new t whole (Err fault)
    left_stop (ReadFault.Text r) one = ap (λ (o : Outcome Script Typed). o.result) split ∙ go (is_taken left.script next.name) (one left.script left.is)
      where
        go : (b : Bool) → (one_name t next left.script (λ after. done t after) b).result ≡ Err r
            → (one_name t next left.script (with_names t rest) b).result ≡ Err r
        go true e = e
        go false e = cc
    left_stop ReadFault.PoolFull one = one left.script left.is
    left_stop ReadFault.Memory one = tt

    pub left_on : ((sc : Script) → IsScript (both s v) known sc → GivesNames (both s v) new t (with_names t (next ∷ []) sc) (Ok tt))
        → IsLeft s v items at m new t whole
    left_on one =
        let (after, e, is) = one left.script left.is in
        record { script = after; is = is; same = split ∙ go (is_taken left.script next.name) after e }
      where
        go : (b : Bool) (after : Script) → one_name t next left.script (λ after. done t after) b ≡ done t after
            → one_name t next left.script (with_names t rest) b ≡ with_names t rest after
        go true after e = absurd (let h = ap (λ (o : Outcome Script Typed). o.result) e in cc)
        go false after e = ap (λ (o : Outcome Script Typed). with_names t rest o.state) e

-- what holds where nothing is found
pub where_none : {X : Type 0} (o : Option X) (P : Type 0) → is_some o ≡ false → IfNone o P → P
where_none None P e h = h
where_none (Some x) P e h = cc
