-- The assertions can be asked as more is known.
use Rattle.std.proofs.Common.{ℕ, List}
use Rattle.term_pool.specs.Views.{TermsView, KeepsTerms}
use Rattle.flip_keys.specs.declared.assertions.Assertions.{Assertions}
use Rattle.flip_keys.specs.Assertions.{AreAssertionsReady}
use Rattle.elab_equality.specs.Asked.{CanBeAsked}

-- what `keys_stay` says
abbrev pub ReadyStays : Type 0
ReadyStays = (v w : TermsView) (a : Assertions) → KeepsTerms v w → AreAssertionsReady v a → AreAssertionsReady w a

pub asked_later : ReadyStays → (rs : List ℕ) (v w : TermsView) (a : Assertions) → KeepsTerms v w → CanBeAsked rs v a → CanBeAsked rs w a
asked_later stays rs v w a keeps h = record { are = h.are; ready = stays v w a keeps h.ready }
