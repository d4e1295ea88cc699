use Rattle.std.specs.Prelude.{map, Vec}
use Rattle.std.specs.declared.alloc.Global.{Global}
use Rattle.proof_store.specs.AddedSteps.{AddedStep}
use Rattle.rule_model.specs.Scopes.{commands_in}
use Rattle.elaborator.specs.Pieces.{IsPieceOf}
use Rattle.elaborator.proofs.ByChunks.{count_of_chunks, each_of_chunks}
use Rattle.elaborator.proofs.chunks.chunks_make_all_blocks.Goals as goal

pub returns : goal.returns
returns g c v pieces done =
    let job = c.args.job.now in
    let says = g.E.Elaborate.says job.elaborate.now job.proof.now v in
    let n = commands_in job.proof.now in
    let items = λ (piece : Vec (Vec AddedStep Global) Global). map (λ (block : Vec AddedStep Global). block.items) piece.items in
    record {
      count_is = count_of_chunks items says n (IsPieceOf says n) (λ k p inside h. record { count = h.count_is; each = h.each }) pieces done;
      each = each_of_chunks items says n (IsPieceOf says n) (λ k p inside h. record { count = h.count_is; each = h.each }) pieces done;
    }
