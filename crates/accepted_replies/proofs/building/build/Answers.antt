use Rattle.accepted_replies.specs.Texts.{inference_of}
use Rattle.accepted_replies.proofs.ReplyBuilding.{infers, resolves, room, room_behind}
use Rattle.accepted_replies.proofs.building.build.Goals as goal

pub add_step-requires-clause-may : goal.add_step-requires-clause-may
add_step-requires-clause-may c =
    infers c.args.assumed.now (inference_of c.args.inference) c.requires.few c.requires.may c.in_ok-builder.builder c.in_ok-builder.ensures

pub add_resolution-requires-clause-may : goal.add_resolution-requires-clause-may
add_resolution-requires-clause-may c =
    resolves c.args.assumed.now (inference_of c.args.inference) c.requires.few c.requires.may c.in_ok-builder.builder c.add_step.new.builder
    c.in_ok-builder.ensures c.in_ok-add_step.ensures

pub add_step-requires-clause-few : goal.add_step-requires-clause-few
add_step-requires-clause-few c =
    room c.args.assumed.now (inference_of c.args.inference) c.requires.few c.requires.may c.in_ok-builder.builder c.in_ok-builder.ensures

pub add_resolution-requires-clause-few : goal.add_resolution-requires-clause-few
add_resolution-requires-clause-few c =
    room_behind c.args.assumed.now (inference_of c.args.inference) c.requires.few c.requires.may c.in_ok-builder.builder c.add_step.new.builder
    c.in_ok-builder.ensures c.in_ok-add_step.ensures
