-- What was written of a text.
use Rattle.std.proofs.Common.{◌≡◌, ◌≤◌, ◌+◌, ℕ, suc, Option, List, [], ◌∷◌, ◌++◌, length, take, refl, sym, ap, ◌∙◌, subst, arith}
use Rattle.std.proofs.lemmas.List.{append_assoc, length-append, take-append-le}
use Rattle.std.proofs.KnownBytes.{Appends-nil, Appends-trans}
use Rattle.std.specs.Io.KnownBytes.{Appends}
use Rattle.file_ports.specs.Texts.{AppendsPrefix}
use Rattle.std.specs.Prelude.{reverse}
use Rattle.sym_table.specs.Table.{Table}
use Rattle.term_model.specs.Terms.{Var, Term}
use Rattle.term_pool.specs.Views.{TermsView}
use Rattle.rule_model.specs.Proofs.{ProofItems}
use Rattle.problem_text.specs.Scripts.{Script}
use Rattle.printed_proofs.specs.Parts.{parts_text, parts_behind}
use Rattle.printed_proofs.specs.Shared.{Plan}
use Rattle.term_printer.specs.Pages.{ComesTo}
use Rattle.alethe_printer.specs.declared.printing.Printing.{Printing}
use Rattle.alethe_printer.specs.Printing.{lines_of, IsToPrint, IsMoved, WritesOn}

taken : (xs ys : List ℕ) (n : ℕ) → take (length xs + n) (xs ++ ys) ≡ xs ++ take n ys
taken [] ys n = let e : 0 + n ≡ n = omega arith in ap (λ k. take k ys) e
taken (x ∷ xs) ys n =
    let e : length (x ∷ xs) + n ≡ suc (length xs + n) = omega arith in
    ap (λ k. take k (x ∷ (xs ++ ys))) e ∙ ap (λ zs. x ∷ zs) (taken xs ys n)

pub prefix_then : (a b c : Option (List ℕ)) (done text others bytes : List ℕ) → Appends a b done → AppendsPrefix b c text
    → bytes ≡ done ++ (text ++ others) → AppendsPrefix a c bytes
prefix_then a b c done text others bytes first (n, within, second) is =
    let few : length done + n ≤ length bytes =
    let e = ap length is in let f = length-append done (text ++ others) in let g = length-append text others in omega (arith, within) in
    let front : take (length done + n) bytes ≡ done ++ take n text =
    ap (λ x. take (length done + n) x) is ∙ (taken done (text ++ others) n ∙ ap (λ x. done ++ x) (take-append-le n text others within)) in
    (length done + n, few, subst (λ x. Appends a c x) (sym front) (Appends-trans a b c done (take n text) first second))

pub prefix_of : (a b : Option (List ℕ)) (done others bytes : List ℕ) → Appends a b done → bytes ≡ done ++ others → AppendsPrefix a b bytes
prefix_of a b done others bytes first is =
    prefix_then a b b done [] others bytes first (0, omega arith, Appends-nil b) is

module _ (plan : Plan) (s : Table) (v : TermsView) where
  module _ (refs : ProofItems ℕ ℕ) (of : ProofItems Var Term) (bytes : List ℕ) where
    -- a piece is written
    pub piece_written : (old new : Printing) (a b c : Option (List ℕ)) → WritesOn plan s v refs of old bytes a b
        → ((x : List ℕ) (end : Script) → ComesTo plan s v old.page x end → IsMoved plan s v new.page x end b c)
        → new ≡ record old { page = new.page } → WritesOn plan s v refs of new bytes a c
    piece_written old new a b c h moves same =
        let p = h.prints in
        let k = moves p.of_page p.state p.comes in
        let later : List ℕ = parts_text plan p.state (reverse p.parts) ++ lines_of plan of (parts_behind plan p.state (reverse p.parts)) p.events in
        record {
          done = h.done ++ k.done;
          others = k.others ++ later;
          written = Appends-trans a b c h.done k.done h.written k.written;
          prints =
              subst (λ (x : Printing). IsToPrint plan s v refs of x (k.others ++ later)) (sym same) (record {
                of_page = k.others;
                state = p.state;
                comes = k.comes;
                sorts = p.sorts;
                parts = p.parts;
                are = p.are;
                events = p.events;
                left = p.left;
                text = refl;
              });
          whole =
              h.whole
              ∙ (ap (λ x. h.done ++ x) (sym p.text ∙ (ap (λ x. x ++ later) k.is ∙ append_assoc k.done k.others later))
              ∙ sym (append_assoc h.done k.done (k.others ++ later)));
        }

    pub still_written : (old new : Printing) (a b : Option (List ℕ)) → WritesOn plan s v refs of old bytes a b
        → ((x : List ℕ) → IsToPrint plan s v refs of old x → IsToPrint plan s v refs of new x) → WritesOn plan s v refs of new bytes a b
    still_written old new a b h still = record {
      done = h.done;
      others = h.others;
      written = h.written;
      prints = still h.others h.prints;
      whole = h.whole;
    }

    pub written_so_far : (p : Printing) (a b : Option (List ℕ)) → WritesOn plan s v refs of p bytes a b → AppendsPrefix a b bytes
    written_so_far p a b h = prefix_of a b h.done h.others bytes h.written h.whole

    -- the text of the page stands in front of all that is left
    pub page_first : (p : Printing) (a b c : Option (List ℕ)) → WritesOn plan s v refs of p bytes a b → AppendsPrefix b c p.page.text.items
        → AppendsPrefix a c bytes
    page_first p a b c h prefix =
        let k = h.prints in
        let later : List ℕ = parts_text plan k.state (reverse k.parts) ++ lines_of plan of (parts_behind plan k.state (reverse k.parts)) k.events in
        let rest : List ℕ = parts_text plan k.comes.state (reverse k.comes.parts) ++ later in
        prefix_then a b c h.done p.page.text.items rest bytes h.written prefix
        (h.whole ∙ ap (λ x. h.done ++ x) (sym k.text ∙ (ap (λ x. x ++ later) (sym k.comes.text)
        ∙ append_assoc p.page.text.items (parts_text plan k.comes.state (reverse k.comes.parts)) later)))

    pub all_written : (p : Printing) (a b c : Option (List ℕ)) (text : List ℕ) → WritesOn plan s v refs of p bytes a b → Appends b c text
        → ((x : List ℕ) → IsToPrint plan s v refs of p x → text ≡ x) → Appends a c bytes
    all_written p a b c text h last is =
        subst (λ x. Appends a c x) (sym (h.whole ∙ ap (λ x. h.done ++ x) (sym (is h.others h.prints)))) (Appends-trans a b c h.done text h.written last)
