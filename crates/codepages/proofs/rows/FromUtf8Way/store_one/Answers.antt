use mathlib.Core.Path.{refl}
use Rattle.codepages.specs.Laws.Branches.{lead_one, lead_two, lead_three, decode_one}
use Rattle.codepages.specs.Laws.Back.{ready_byte, ready_lead, back_fits, back_wrote}
use Rattle.codepages.proofs.Pages.{index_below}
use Rattle.codepages.proofs.rows.FromUtf8Way.store_one.Goals as goal

pub bounds-out-w : goal.bounds-out-w
bounds-out-w c = back_fits _ _ _ _ _ (index_below c.args.self.now.page) c.requires.inside c.requires.ready

pub returns-then-a-lt-ASCII : goal.returns-then-a-lt-ASCII
returns-then-a-lt-ASCII c = let a = c.args in back_wrote _ a.input.now a.i a.out.now a.w (index_below a.self.now.page) c.requires.inside c.requires.ready _ _ (decode_one _ a.input.now a.i _ refl c.if-a-lt-ASCII.true) (lead_one _ c.if-a-lt-ASCII.true)

pub known_two-requires : goal.known_two-requires
known_two-requires c = (c.requires.inside, ready_byte _ _ _ _ _ (index_below c.args.self.now.page) c.requires.inside c.requires.ready, c.if-a-lt-ASCII.false, c.if-a-lt224.true)

pub bounds-out-w-then-a-lt224 : goal.bounds-out-w-then-a-lt224
bounds-out-w-then-a-lt224 c = back_fits _ _ _ _ _ (index_below c.args.self.now.page) c.requires.inside c.requires.ready

pub returns-then-a-lt224 : goal.returns-then-a-lt224
returns-then-a-lt224 c = let a = c.args in back_wrote _ a.input.now a.i a.out.now a.w (index_below a.self.now.page) c.requires.inside c.requires.ready _ _ c.known_two.ensures (lead_two _ c.if-a-lt-ASCII.false c.if-a-lt224.true)

pub known_three-requires : goal.known_three-requires
known_three-requires c = (c.requires.inside, ready_byte _ _ _ _ _ (index_below c.args.self.now.page) c.requires.inside c.requires.ready, c.if-a-lt224.false, ready_lead _ _ _ _ _ (index_below c.args.self.now.page) c.requires.inside c.requires.ready)

pub bounds-out-w-2 : goal.bounds-out-w-2
bounds-out-w-2 c = back_fits _ _ _ _ _ (index_below c.args.self.now.page) c.requires.inside c.requires.ready

pub returns : goal.returns
returns c = let a = c.args in back_wrote _ a.input.now a.i a.out.now a.w (index_below a.self.now.page) c.requires.inside c.requires.ready _ _ c.known_three.ensures (lead_three _ c.if-a-lt224.false)
