use Rattle.store.specs.Laws.Puts.{none_puts, more_puts}
use Rattle.look_put.proofs.most_areas.Goals as goal

pub returns : goal.returns
returns c =
    (more_puts {n = 6} c.area-st.ensures
    (more_puts {n = 5} c.area-st-2.ensures
    (more_puts {n = 4} c.area-st-3.ensures
    (more_puts {n = 3} c.area-st-4.ensures
    (more_puts {n = 2} c.area-st-5.ensures
    (more_puts {n = 1} c.area-st-6.ensures
    (more_puts {n = 0} c.area.ensures
    none_puts)))))))
