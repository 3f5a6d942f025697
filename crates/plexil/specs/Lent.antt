-- What a state that is lent array by array stands for.
use Rattle.plexil.specs.declared.State.{State}
use Rattle.plexil.specs.declared.lent.Seen as lent
use Rattle.plexil.specs.declared.lent.Before.{Before}
use Rattle.plexil.specs.Places.{Seen, seen_of, state_of}

-- what expressions read, by the arrays that are lent
abbrev pub seen_lent : lent.Seen → Seen
seen_lent x = seen_of x.status.now x.outcome.now x.failure.now x.vartags.now x.varbits.now x.looktags.now x.lookbits.now

-- the state, by the arrays that are lent
abbrev pub state_lent : Before → State
state_lent b =
    state_of b.seen.status.now b.seen.outcome.now b.seen.failure.now b.mark.now
    b.seen.vartags.now b.seen.varbits.now b.seen.looktags.now b.seen.lookbits.now
