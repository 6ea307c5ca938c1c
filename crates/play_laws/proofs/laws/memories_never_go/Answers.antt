use Rattle.play_laws.proofs.PlayLemmas.{never-goes}
use Rattle.play_laws.proofs.laws.memories_never_go.Goals as goal

pub returns : goal.returns
returns c sounding old last plan moment period channels disks new birth stands performs =
    never-goes sounding old last plan moment period channels disks new performs
    (c.a_stage_stands_behind_its_cycle.ensures.seating sounding old last plan moment period channels performs.cast performs.places performs.filled disks performs.fed performs.crew new.racked performs.casts performs.fills performs.feeds performs.performs) birth
