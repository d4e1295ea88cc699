use Rattle.generated_texts.proofs.generating.come_read.Goals as goal

pub returns-in-Err-PoolFull : goal.returns-in-Err-PoolFull
returns-in-Err-PoolFull g c = λ bits places. c.in-Err-PoolFull.ensures.full bits places c.in-Err-PoolFull.field-0-is
