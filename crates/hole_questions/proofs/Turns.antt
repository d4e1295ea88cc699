-- Private. After one task, what is written and what is left are the same pieces.
use Rattle.std.proofs.Common.{◌≡◌, ℕ, ◌<◌, List, [], ◌∷◌, ◌++◌, length, reverse, flat_map, refl, sym, ap, ◌∙◌, subst}
use Rattle.std.proofs.lemmas.List.{append-nil, append_assoc, reverse-append}
use Rattle.std.proofs.lemmas.Grind.{flat_map-append}
use Rattle.std.specs.List.{AllZip}
use Rattle.sym_table.specs.Table.{Table}
use Rattle.term_model.specs.Terms.{Var, Fun, Term}
use Rattle.term_pool.specs.Views.{TermsView, RefersTo}
use Rattle.hole_fillers.specs.Questions.{most_bytes}
use Rattle.hole_questions.specs.States.{Piece}
use Rattle.hole_questions.specs.Pieces.{term_pieces}
use Rattle.hole_questions.specs.Walks.{Part, whole, part_pieces, pieces_left, IsTask, IsSomeTask, Performs, ComesTo, Writes, IsTooLong}
use Rattle.term_walk.specs.declared.tasks.Task.{Task}
use Rattle.hole_questions.specs.declared.writer.Writer.{Writer}
use Rattle.hole_questions.proofs.Writing.{nothing, both, long_already}

-- lists in step
record EndsWith {X Y : Type 0} (P : X → Y → Type 0) (xs : List X) (x : X) (ys : List Y) : Type 0 where
  others : List Y
  last : Y
  is : ys ≡ others ++ last ∷ []
  in_step : AllZip P xs others
  fits : P x last

ends_with : {X Y : Type 0} (P : X → Y → Type 0) (xs : List X) (x : X) (ys : List Y) → AllZip P (xs ++ x ∷ []) ys → EndsWith P xs x ys
ends_with P [] x [] h = absurd h
ends_with P [] x (y ∷ []) h = record { others = []; last = y; is = refl; in_step = tt; fits = h.0 }
ends_with P [] x (y ∷ z ∷ ys) h = absurd h.1
ends_with P (a ∷ xs) x [] h = absurd h
ends_with P (a ∷ xs) x (y ∷ ys) h =
    let r = ends_with P xs x ys h.1 in
    record { others = y ∷ r.others; last = r.last; is = ap (λ l. y ∷ l) r.is; in_step = (h.0, r.in_step); fits = r.fits }

joined : {X Y : Type 0} (P : X → Y → Type 0) (xs us : List X) (ys ws : List Y) → AllZip P xs ys → AllZip P us ws → AllZip P (xs ++ us) (ys ++ ws)
joined P [] us [] ws h k = k
joined P [] us (y ∷ ys) ws h k = absurd h
joined P (x ∷ xs) us [] ws h k = absurd h
joined P (x ∷ xs) us (y ∷ ys) ws h k = (h.0, joined P xs us ys ws h.1 k)

none_left : {X Y : Type 0} (P : X → Y → Type 0) (ys : List Y) → AllZip P [] ys → ys ≡ []
none_left P [] h = refl
none_left P (y ∷ ys) h = absurd h

module _ (s : Table) (v : TermsView) where
  pub started : (r : ℕ) (t : Term) (w : Writer) (tasks : List Task) → tasks ≡ Task.Term r ∷ [] → RefersTo s v r t → ComesTo s v tasks w w (term_pieces t)
  started r t w tasks e h = record {
    written = [];
    parts = whole t ∷ [];
    wrote = nothing s w;
    are = subst (λ ts. AllZip (IsTask s v) ts (whole t ∷ [])) (sym e) (h, tt);
    is = sym (append-nil (term_pieces t));
  }

  module _ (tasks mid_tasks : List Task) (task : Task) (old mid : Writer) (ps : List (Piece Fun Var)) (h : ComesTo s v tasks old mid ps)
      (e : tasks ≡ mid_tasks ++ task ∷ []) where
    r : EndsWith (IsTask s v) mid_tasks task h.parts
    r = ends_with (IsTask s v) mid_tasks task h.parts (subst (λ ts. AllZip (IsTask s v) ts h.parts) e h.are)

    pub last_task : IsSomeTask s v task
    last_task = record { part = r.last; is = r.fits }

    pub turn : (new_tasks : List Task) (new : Writer) → ((p : Part) → IsTask s v task p → Performs s v mid_tasks new_tasks mid new p)
        → ComesTo s v new_tasks old new ps
    turn new_tasks new done =
        let k = done r.last r.fits in
        let rest : List (Piece Fun Var) = flat_map part_pieces (reverse r.others) in
        let first : pieces_left h.parts ≡ part_pieces r.last ++ rest =
        ap (flat_map part_pieces) (ap reverse r.is ∙ reverse-append r.others (r.last ∷ [])) in
        let then : pieces_left (r.others ++ k.parts) ≡ pieces_left k.parts ++ rest =
        ap (flat_map part_pieces) (reverse-append r.others k.parts) ∙ flat_map-append part_pieces (reverse k.parts) (reverse r.others) in
        record {
          written = h.written ++ k.written;
          parts = r.others ++ k.parts;
          wrote = both s old mid new h.written k.written h.wrote k.wrote;
          are =
              subst (λ ts. AllZip (IsTask s v) ts (r.others ++ k.parts)) (sym k.put)
              (joined (IsTask s v) mid_tasks k.tasks r.others k.parts r.in_step k.are);
          is =
              h.is ∙ (ap (λ x. h.written ++ x) (first ∙ (ap (λ x. x ++ rest) k.is ∙ (append_assoc k.written (pieces_left k.parts) rest
              ∙ ap (λ x. k.written ++ x) (sym then)))) ∙ sym (append_assoc h.written k.written (pieces_left (r.others ++ k.parts))));
        }

  pub finished : (old new : Writer) (ps : List (Piece Fun Var)) → ComesTo s v [] old new ps → Writes s old new ps
  finished old new ps h =
      subst (Writes s old new)
      (sym (h.is ∙ (ap (λ x. h.written ++ pieces_left x) (none_left (IsTask s v) h.parts h.are) ∙ append-nil h.written))) h.wrote

  pub ended : (tasks : List Task) (old new : Writer) (ps : List (Piece Fun Var)) → ComesTo s v tasks old new ps → most_bytes < length new.text.items
      → IsTooLong s old ps
  ended tasks old new ps h long =
      subst (IsTooLong s old) (sym h.is) (long_already s old new h.written (pieces_left h.parts) h.wrote long)
