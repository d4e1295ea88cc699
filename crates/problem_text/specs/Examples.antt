-- Public. The reading of short texts, computed from their bytes: what the examples of this crate speak of. Only they use
-- it: the items of a text are defined in `sexpr`, by a relation.
use Rattle.std.specs.Prelude.{ℕ, zero, suc, Bool, false, List, [], ◌∷◌, length, Option, Some, None, Result, Ok, Err}
use Rattle.sexpr.specs.declared.causes.Cause.{Cause}
use Rattle.sexpr.specs.declared.causes.Refusal.{Refusal}
use Rattle.sexpr.specs.declared.lexing.Token.{Token}
use Rattle.sexpr.specs.declared.lexing.TokenKind.{TokenKind}
use Rattle.sexpr.specs.declared.lexing.TokenKind.TheVariants.{Open, Close, Text, Quoted, Word}
use Rattle.sexpr.specs.Characters.{is_white, ends_comment, is_mark, is_word_byte}
use Rattle.sexpr.specs.Words.{is_number}
use Rattle.sexpr.specs.Tokens.{blanks_end, string_end, token_at, next_token, token_text}
use Rattle.sexpr.specs.Items.{Item, word, quoted, string, list, Items, no_items, item}
use Rattle.term_model.specs.Terms.{Term}
use Rattle.term_model.specs.Heights.{height}
use Rattle.problem_text.specs.Forms.{form_of}
use Rattle.problem_text.specs.Commands.{script_command_of}
use Rattle.rule_model.specs.Replacement.{replaced, free_variables}
use Rattle.problem_text.specs.Scripts.{Script}
use Rattle.problem_text.specs.Sorts.{sort_from}
use Rattle.problem_text.specs.Names.{meaning_of, meaning_applied}
use Rattle.problem_text.specs.Terms.{term_from}
use Rattle.problem_text.specs.Problems.{script_performed, script_commands, problem}

abbrev pub token_read : Result (Option Token) Refusal → Option Token
token_read (Ok (Some t)) = Some t
token_read (Ok None) = None
token_read (Err refusal) = None

-- at most so many tokens, from a place on
abbrev pub tokens_from : ℕ → List ℕ → ℕ → List Token
tokens_from zero text at = []
tokens_from (suc n) text at = elim (token_read (next_token text at)) [ Some t ↦ t ∷ tokens_from n text t.end | None ↦ [] ]

-- Items are put together from the right: the lists that are still open to the left, the innermost first.
abbrev pub opened : ℕ → List Items → List Items
opened place (inner ∷ outer ∷ others) = item (list place inner) outer ∷ others
opened place others = others

abbrev pub put_before : Item → List Items → List Items
put_before i [] = []
put_before i (inner ∷ others) = item i inner ∷ others

abbrev pub with_token : List ℕ → Token → TokenKind → List Items → List Items
with_token text t Open open_lists = opened t.start open_lists
with_token text t Close open_lists = no_items ∷ open_lists
with_token text t Text open_lists = put_before (string t.start (token_text text t)) open_lists
with_token text t Quoted open_lists = put_before (quoted t.start (token_text text t)) open_lists
with_token text t Word open_lists = put_before (word t.start (token_text text t)) open_lists

abbrev pub nested : List ℕ → List Token → List Items
nested text [] = no_items ∷ []
nested text (t ∷ ts) = with_token text t t.kind (nested text ts)

abbrev pub outermost : List Items → Items
outermost [] = no_items
outermost (items ∷ others) = items

unfoldable pub items_in : List ℕ → Items
items_in text = outermost (nested text (tokens_from (length text) text 0))

abbrev pub fault_in : Result Unit Refusal → Option Refusal
fault_in (Ok done) = None
fault_in (Err refusal) = Some refusal

abbrev pub fault : Cause → ℕ → Option Refusal
fault cause place = Some (record { cause = cause; at = place })

-- the first fault of the commands of a text
unfoldable pub first_fault : Bool → List ℕ → Option Refusal
unfolding is_white ends_comment is_mark is_word_byte is_number blanks_end string_end token_at next_token items_in form_of script_command_of height replaced
    free_variables sort_from meaning_of meaning_applied term_from script_performed script_commands
first_fault replaces_lets text = fault_in (problem replaces_lets (items_in text)).result

-- what the assertions of a text stand for, up to its first fault
unfoldable pub assertions_in : Bool → List ℕ → List Term
unfolding first_fault
assertions_in replaces_lets text = (problem replaces_lets (items_in text)).state.assertions

-- the script that its commands come to
unfoldable pub script_in : List ℕ → Script
unfolding first_fault
script_in text = (problem false (items_in text)).state
