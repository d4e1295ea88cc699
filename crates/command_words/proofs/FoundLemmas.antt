-- What the getters of `clap`'s matches return.
use Rattle.std.proofs.Common.{◌≡◌, ◌∙◌, ap, refl, ℕ, Bool, true, false, List, Option, None, Some}
use Rattle.std.proofs.lemmas.Option.{same_Some}
use Rattle.std.specs.Prelude.{codes, option_map}
use Rattle.std.specs.Prelude.{Box}
use Rattle.std.specs.Box.{box_value}
use Rattle.clap.specs.Matches.{first_value, one_text, subcommand_name_of}
use Rattle.clap.specs.Simple.{subcommand_rows, subcommand_rows_of}
use Rattle.clap.specs.declared.parser.matches.ArgMatches.{ArgMatches}
use Rattle.clap.specs.declared.parser.matches.SubCommand.{SubCommand}
use Rattle.clap.specs.declared.parser.matches.ArgMatches.TheViews.{out-ArgMatches, out-SubCommand}
use Rattle.clap.specs.Walk.{Row, Text, first_of, one_of, rows_of}
use Rattle.clap.specs.declared.parser.matches.Found.{Found}
use Rattle.clap.proofs.WalkLemmas.{first_value-rows, one_text-rows}
use Rattle.command_words.specs.CommandLine.{generate, asked_for, has_options, links_in}
use Rattle.command_words.specs.declared.request.Command.{Command}
use Rattle.command_words.specs.Found.{Given, generate_of, has_none, wanted_from, flag_text, workers_of}

pub rows_are : (x rows : List Row) (found : Option (Text × List Row)) (name : Text) → Some x ≡ option_map (λ p. p.1) found → found ≡ Some (name, rows) → x ≡ rows
rows_are x rows found name e is = same_Some x rows (e ∙ ap (option_map (λ p. p.1)) is)

names_agree : {Z : Type 0} (found : Option (Box SubCommand Z)) → option_map (λ b. (out-SubCommand (box_value b)).name.now) found ≡ option_map (λ p. p.0) (subcommand_rows found)
names_agree None = refl
names_agree (Some b) = refl

pub name_is : (x : Text) (rows : List Row) (m : ArgMatches) (name : Text) → Some x ≡ subcommand_name_of m → subcommand_rows_of m ≡ Some (name, rows) → x ≡ name
name_is x rows m name e is = same_Some x name (e ∙ names_agree (out-ArgMatches m).subcommand ∙ ap (option_map (λ p. p.0)) is)

pub value_is : (f : Found) (id : Text) (rows : List Row) (value : Text) (r : Option Text) → r ≡ first_value f id → rows_of f ≡ rows → first_of id rows ≡ Some value → r ≡ Some value
value_is f id rows value r e is there = e ∙ first_value-rows f id ∙ ap (first_of id) is ∙ there

by_text : (b : Bool) (t : Option Text) (r : Bool) → t ≡ Some (flag_text b) → (t ≡ Some (codes "true") → r ≡ true) → (t ≡ Some (codes "false") → r ≡ false) → r ≡ b
by_text true t r is said other = said is
by_text false t r is said other = other is

pub flag_is : (f : Found) (id : Text) (rows : List Row) (b r : Bool) → rows_of f ≡ rows → one_of id rows ≡ Some (flag_text b) → (one_text f id ≡ Some (codes "true") → r ≡ true) → (one_text f id ≡ Some (codes "false") → r ≡ false) → r ≡ b
flag_is f id rows b r is there said other = by_text b (one_text f id) r (one_text-rows f id ∙ ap (one_of id) is ∙ there) said other

-- the number of workers as it is spelled, where it is
pub number_is : (f : Found) (id : Text) (rows : List Row) (n r : Option Text) → r ≡ first_value f id → rows_of f ≡ rows → first_of id rows ≡ n → r ≡ n
number_is f id rows n r e is there = e ∙ first_value-rows f id ∙ ap (first_of id) is ∙ there

pub asked_is : (c : Command) (p q : Text) (e i s : Bool) (g : Given) (k : ℕ) → Some p ≡ Some g.proof → Some q ≡ Some g.problem
    → e ≡ g.options.replaces_lets → i ≡ g.options.ignores_unknown_rules → s ≡ g.options.is_strict → workers_of g.number ≡ Some k
    → has_options c (record { replaces_lets = e; ignores_unknown_rules = i; is_strict = s }) ≡ true
    → Some (record { command = c; proof = p; problem = q; options = record { replaces_lets = e; ignores_unknown_rules = i; is_strict = s }; workers = k })
    ≡ asked_for c (wanted_from g)
asked_is c p q e i s g k proof problem lets unknown strict workers has =
    let has_now : has_options c g.options ≡ true = rw (lets, unknown, strict) at has in
    rw (same_Some p g.proof proof, same_Some q g.problem problem, lets, unknown, strict, workers, has_now) refl

-- the command has not these options
pub lacks_options : (c : Command) (e i s : Bool) (g : Given) (k : ℕ) → e ≡ g.options.replaces_lets → i ≡ g.options.ignores_unknown_rules
    → s ≡ g.options.is_strict → workers_of g.number ≡ Some k
    → has_options c (record { replaces_lets = e; ignores_unknown_rules = i; is_strict = s }) ≡ false → None ≡ asked_for c (wanted_from g)
lacks_options c e i s g k lets unknown strict workers has =
    let has_not : has_options c g.options ≡ false = rw (lets, unknown, strict) at has in
    rw (workers, has_not) refl

pub asks_nothing : (c : Command) (g : Given) → workers_of g.number ≡ None → None ≡ asked_for c (wanted_from g)
asks_nothing c g h = rw h refl

-- ---- `generate`

pub generate_is : (q : Text) (e i s : Bool) (g : Given) (k : ℕ) → Some q ≡ Some g.problem → e ≡ g.options.replaces_lets
    → i ≡ g.options.ignores_unknown_rules → s ≡ g.options.is_strict → workers_of g.number ≡ Some k
    → has_none (record { replaces_lets = e; ignores_unknown_rules = i; is_strict = s }) ≡ true
    → option_map (λ links. generate links k) (links_in q) ≡ generate_of (wanted_from g)
generate_is q e i s g k problem lets unknown strict workers none =
    let none_now : has_none g.options ≡ true = rw (lets, unknown, strict) at none in
    rw (same_Some q g.problem problem, workers, none_now) refl

pub generate_has_options : (e i s : Bool) (g : Given) (k : ℕ) → e ≡ g.options.replaces_lets → i ≡ g.options.ignores_unknown_rules
    → s ≡ g.options.is_strict → workers_of g.number ≡ Some k
    → has_none (record { replaces_lets = e; ignores_unknown_rules = i; is_strict = s }) ≡ false → None ≡ generate_of (wanted_from g)
generate_has_options e i s g k lets unknown strict workers some =
    let some_now : has_none g.options ≡ false = rw (lets, unknown, strict) at some in
    rw (workers, some_now) refl

pub generate_has_no_workers : (g : Given) → workers_of g.number ≡ None → None ≡ generate_of (wanted_from g)
generate_has_no_workers g h = rw h refl
