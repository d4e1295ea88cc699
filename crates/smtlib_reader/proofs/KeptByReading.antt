-- What the reading of a term keeps of a script.
use Rattle.std.proofs.Common.{◌≡◌, ℕ, List, Bool, true, false, ◌||◌, None, if◌then◌else◌, refl, sym, ◌∙◌, ap, bytes_eq}
use Rattle.std.specs.Prelude.{⊤}
use Rattle.std.proofs.lemmas.Slice.Eq.{bytes_eq-Decides}
use Rattle.sexpr.specs.declared.causes.Cause.TheVariants.{SortMismatch}
use Rattle.term_model.specs.declared.symbols.Sort.{Sort}
use Rattle.sexpr.specs.Items.{Item, place_of}
use Rattle.smtlib_reader.specs.Defining.{within, body_read, macro_defined}
use Rattle.term_model.specs.Terms.{Var, sort_eq}
use Rattle.problem_text.specs.Words.{is_among, is_built_in}
use Rattle.problem_text.specs.Forms.{Form, form_of}
use Rattle.problem_text.specs.TypedTerms.{Typed}
use Rattle.problem_text.specs.Outcomes.{Outcome, done, refuse}
use Rattle.problem_text.specs.Scripts.{Named, Script, is_taken, with_macro, with_named, with_term, with_let_name}
use Rattle.problem_text.specs.Names.{Place}
use Rattle.term_names.specs.Standing.{named_in_script, macro_in, function_in}
use Rattle.problem_text.specs.Terms.{term_from}
use Rattle.term_reader.proofs.GivenNames.{named_before, taken_before}
use Rattle.problem_text.proofs.Growing.{Anything, anything, kept_term}
use Rattle.problem_text.proofs.Outcomes.{Ends, ends-and_then}

-- The assertions are the same, and the same commands stand before.
pub record IsStill (old new : Script) : Type 0 where
  pub assertions : new.assertions ≡ old.assertions
  pub has_logic : new.has_logic ≡ old.has_logic
  pub is_checked : new.is_checked ≡ old.is_checked

still_then : (old s after : Script) → after.assertions ≡ s.assertions → after.has_logic ≡ s.has_logic → after.is_checked ≡ s.is_checked → IsStill old s → IsStill old after
still_then old s after a b c h = record { assertions = a ∙ h.assertions; has_logic = b ∙ h.has_logic; is_checked = c ∙ h.is_checked }

-- a term asserts nothing
pub still_after_term : (f : Form) (p : Place) (s : Script) → IsStill s (term_from f p s).state
still_after_term f p s =
    (kept_term (λ after. IsStill s after) (λ t sc h. still_then s sc (with_term t sc) refl refl refl h) (λ name sc h. still_then s sc (with_let_name name sc) refl refl refl h)
    (λ n sc e h. still_then s sc (with_named n sc) refl refl refl h) f p s (record { assertions = refl; has_logic = refl; is_checked = refl })).0

-- nor does the definition of a macro
pub still_after_macro : (name : List ℕ) (xs : List Var) (target : Sort) (body : Item) (s : Script) → IsStill s (macro_defined name xs target body s).state
still_after_macro name xs target body s =
    (ends-and_then (IsStill s) Anything Anything (body_read xs body s) (λ t last. next t last (sort_eq t.sort target)) (read, anything (body_read xs body s).result) (λ t last _ p. go t last p (sort_eq t.sort target))).0
  where
    next : Typed → Script → Bool → Outcome Script ⊤
    next t last b = if b then done tt (with_macro (record { name = name; parameters = xs; target = target; body = t.tree }) last) else refuse SortMismatch (place_of body) last

    read : IsStill s (body_read xs body s).state
    read = still_after_term (form_of body) (within xs) s

    go : (t : Typed) (last : Script) → IsStill s last → (b : Bool) → Ends (IsStill s) Anything (next t last b)
    go t last p true = (still_then s last (next t last true).state refl refl refl p, tt)
    go t last p false = (p, tt)

-- the name is taken, but it is that of no function, macro or named term
pub record IsReservedIn (sc : Script) (name : List ℕ) : Type 0 where
  pub taken : is_among sc.taken name ≡ true
  pub no_named : named_in_script sc name ≡ None
  pub no_macro : macro_in sc name ≡ None
  pub no_function : function_in sc name ≡ None

-- a name that is not taken is another one than one that is
other_name : (sc : Script) (name other : List ℕ) → is_among sc.taken name ≡ true → is_taken sc other ≡ false → bytes_eq name other ≡ false
other_name sc name other taken untaken = go (bytes_eq name other) refl
  where
    both : (a b : Bool) → (a || b) ≡ false → b ≡ true → ⊥
    both true b e f = cc
    both false b e f = cc

    go : (b : Bool) → bytes_eq name other ≡ b → bytes_eq name other ≡ false
    go false e = e
    go true e = absurd (both (is_built_in other) (is_among sc.taken other) untaken (ap (is_among sc.taken) (sym ((bytes_eq-Decides name other).0 e)) ∙ taken))

-- a term is given no name that is taken
pub still_reserved : (f : Form) (p : Place) (s : Script) (name : List ℕ) → IsReservedIn s name → IsReservedIn (term_from f p s).state name
still_reserved f p s name h = (kept_term (λ sc. IsReservedIn sc name) (λ t sc k. same sc (with_term t sc) refl refl refl refl k) (λ x sc k. same sc (with_let_name x sc) refl refl refl refl k) given f p s h).0
  where
    same : (sc after : Script) → after.taken ≡ sc.taken → after.named ≡ sc.named → after.macros ≡ sc.macros → after.functions ≡ sc.functions → IsReservedIn sc name → IsReservedIn after name
    same sc after a b c d k = record {
      taken = rw a k.taken;
      no_named = rw b k.no_named;
      no_macro = rw c k.no_macro;
      no_function = rw d k.no_function;
    }

    given : (n : Named) (sc : Script) → is_taken sc n.name ≡ false → IsReservedIn sc name → IsReservedIn (with_named n sc) name
    given n sc untaken k =
        let differs = other_name sc name n.name k.taken untaken in
        record {
          taken = taken_before sc n name differs ∙ k.taken;
          no_named = named_before sc n name differs ∙ k.no_named;
          no_macro = k.no_macro;
          no_function = k.no_function;
        }
