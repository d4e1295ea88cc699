-- Private. What more is remembered, and what is known of the arguments of an application.
use Rattle.std.specs.Prelude.{◌≡◌, ◌≢◌, ◌+◌, ◌^◌, ◌≤◌, ℕ, List, [], length, nat_lt, Option, Some, None, unwrap_or, option_to_list, if◌then◌else◌}
use Rattle.std.specs.Prelude.{Contains}
use Rattle.std.specs.Prelude.{nat_eq}
use Rattle.std.specs.HashMap.{get}
use Rattle.proof_store.specs.AddedSteps.{AddedStep}
use Rattle.proof_store.specs.declared.added.Link.{Link}
use Rattle.sym_table.specs.Table.{Table}
use Rattle.term_model.specs.Terms.{Term, terms_of}
use Rattle.term_pool.specs.Reading.{IsLet, arguments_of}
use Rattle.term_pool.specs.Views.{TermsView, RefersTo, ReferToAll}
use Rattle.rule_model.specs.Congruence.{AreDifferences}
use Rattle.equality_steps.specs.Blocks.{IsBlockAt}
use Rattle.equality_steps.specs.Links.{LinksSay}
use Rattle.equality_steps.specs.Sites.{IsTermAt}
use Rattle.equality_steps.specs.declared.site.Site.{Site}
use Rattle.flip_steps.specs.declared.forms.Formed.{Formed}
use Rattle.flip_steps.specs.declared.forms.Forms.{Forms}
use Rattle.flip_steps.specs.Forms.{AreFormsOf}
use Rattle.flip_steps.specs.Memory.{IsRememberedAs, count_of}
use Rattle.flip_steps.specs.declared.refilling.Stages.{Stages}
use Rattle.flip_steps.specs.Refilling.{AreArgumentForms, AreStages}
use Rattle.flip_steps.specs.Stages.{StandsBefore}
use Rattle.flip_steps.specs.Units.{AddsUnits}

-- a term that is its own form
abbrev pub alone : ℕ → Formed
alone r = record { form = r; link = None }

-- what is known of a term: a leaf is its own form
abbrev pub found_in : Forms → ℕ → Option Formed
found_in forms r = if nat_lt r (2 ^ 30) then Some (alone r) else get nat_eq forms.formed r

-- the form is known
pub record IsSettled (forms : Forms) (r : ℕ) : Type 0 where
  pub formed : Formed
  pub is : found_in forms r ≡ Some formed

-- one form more is remembered
pub record Notes (old new : Forms) (r : ℕ) (x : Formed) : Type 0 where
  pub cell : 2 ^ 30 ≤ r
  pub here : IsRememberedAs new r x
  pub others : (q : ℕ) → q ≢ r → get nat_eq new.formed q ≡ get nat_eq old.formed q
  pub more : count_of new ≡ count_of old + 1

-- the reference of the form, and the link, of a term whose form is known
abbrev pub form_in : Forms → ℕ → ℕ
form_in forms r = (unwrap_or (found_in forms r) (alone r)).form

abbrev pub links_in : Forms → ℕ → List Link
links_in forms r = option_to_list (unwrap_or (found_in forms r) (alone r)).link

-- The references are those of the forms of these terms, and the links say in order that the terms which differ from their forms are
-- equal to these; without links there are none.
pub record AreGathered (p : Site) (v : TermsView) (steps : List AddedStep) (args : List ℕ) (ts : List Term) (forms : List ℕ) (links : List Link) : Type 0 where
  pub us : List Term
  pub refer : ReferToAll p.symbols.now v forms us
  pub are : AreFormsOf (StandsBefore p.symbols.now v) (terms_of ts) (terms_of us)
  pub clauses : List (List Term)
  pub say : LinksSay p v steps links clauses
  pub differences : AreDifferences clauses ts us
  pub same : links ≡ [] → us ≡ ts

-- An application of this head that may stand there: the references stand for the forms of its arguments, and the links say that these
-- are equal to their forms.
pub record IsGatheredFor (p : Site) (v : TermsView) (steps : List AddedStep) (whole head : ℕ) (forms : List ℕ) (links : List Link) : Type 0 where
  pub side : IsTermAt p v whole
  pub given : AreArgumentForms p.symbols.now v whole head forms
  pub clauses : List (List Term)
  pub say : LinksSay p v steps links clauses
  pub differences : AreDifferences clauses (arguments_of given.term) given.us
  pub same : links ≡ [] → given.us ≡ arguments_of given.term

-- the same with the form of the application
pub record IsReadyFor (p : Site) (v : TermsView) (steps : List AddedStep) (links : List Link) (x : Stages) : Type 0 where
  pub head : ℕ
  pub forms : List ℕ
  pub side : IsTermAt p v x.whole
  pub stages : AreStages p.symbols.now v head forms x
  pub clauses : List (List Term)
  pub say : LinksSay p v steps links clauses
  pub differences : AreDifferences clauses (arguments_of stages.given.term) stages.given.us

-- for some links
pub record IsReady (p : Site) (v : TermsView) (steps : List AddedStep) (x : Stages) : Type 0 where
  pub links : List Link
  pub ready : IsReadyFor p v steps links x

-- The block is the old one with so many steps more at most, of one literal each, of a kind.
pub record GrowsBy (p : Site) (v : TermsView) (old new : List AddedStep) (IsWanted : Term → Type 0) (n : ℕ) : Type 0 where
  pub block : IsBlockAt p v new
  pub units : AddsUnits p v old new IsWanted
  pub few : length new ≤ length old + n

-- an application that may stand there
pub record IsApplicationAt (p : Site) (v : TermsView) (r : ℕ) : Type 0 where
  pub side : IsTermAt p v r
  pub no_let : IsLet side.term → ⊥

-- the forms of its arguments are known
abbrev pub AreArgumentsSettled : Table → TermsView → Forms → ℕ → Type 0
AreArgumentsSettled s v forms r =
    (t a : Term) (q : ℕ) → RefersTo s v r t → RefersTo s v q a → Contains (arguments_of t) a → IsSettled forms q
