use Rattle.reasoner.proofs.AgeLaws.{second_room, third_room, ages_put}
use Rattle.reasoner.proofs.aging.put_ages.Goals as goal

pub bounds-ages-at-2 : goal.bounds-ages-at-2
bounds-ages-at-2 c = search second_room

pub bounds-ages-at-3 : goal.bounds-ages-at-3
bounds-ages-at-3 c = search third_room

pub returns : goal.returns
returns c = search ages_put
