use Rattle.fields.specs.Laws.Gives.{more_gives, none_gives}
use Rattle.fields.specs.Laws.Exits.{whole, exit, stopped, again}
use Rattle.look.proofs.areas.most_areas.Goals as goal

pub returns-in_err-layers : goal.returns-in_err-layers
returns-in_err-layers c = exit _ _ _ _ _ c.from_residual.ensures whole (stopped 6 c.in_err-layers.ensures)

pub returns-in_err-corner : goal.returns-in_err-corner
returns-in_err-corner c = exit _ _ _ _ _ c.from_residual-in_err-corner.ensures whole (again 6 c.in_ok-layers.ensures (stopped 5 c.in_err-corner.ensures))

pub returns-in_err-row_labels : goal.returns-in_err-row_labels
returns-in_err-row_labels c = exit _ _ _ _ _ c.from_residual-in_err-row_labels.ensures whole (again 6 c.in_ok-layers.ensures (again 5 c.in_ok-corner.ensures (stopped 4 c.in_err-row_labels.ensures)))

pub returns-in_err-column_labels : goal.returns-in_err-column_labels
returns-in_err-column_labels c = exit _ _ _ _ _ c.from_residual-in_err-column_labels.ensures whole (again 6 c.in_ok-layers.ensures (again 5 c.in_ok-corner.ensures (again 4 c.in_ok-row_labels.ensures (stopped 3 c.in_err-column_labels.ensures))))

pub returns-in_err-data : goal.returns-in_err-data
returns-in_err-data c = exit _ _ _ _ _ c.from_residual-in_err-data.ensures whole (again 6 c.in_ok-layers.ensures (again 5 c.in_ok-corner.ensures (again 4 c.in_ok-row_labels.ensures (again 3 c.in_ok-column_labels.ensures (stopped 2 c.in_err-data.ensures)))))

pub returns-in_err-caption : goal.returns-in_err-caption
returns-in_err-caption c = exit _ _ _ _ _ c.from_residual-in_err-caption.ensures whole (again 6 c.in_ok-layers.ensures (again 5 c.in_ok-corner.ensures (again 4 c.in_ok-row_labels.ensures (again 3 c.in_ok-column_labels.ensures (again 2 c.in_ok-data.ensures (stopped 1 c.in_err-caption.ensures))))))

pub returns-in_err-footer : goal.returns-in_err-footer
returns-in_err-footer c = exit _ _ _ _ _ c.from_residual-in_err-footer.ensures whole (again 6 c.in_ok-layers.ensures (again 5 c.in_ok-corner.ensures (again 4 c.in_ok-row_labels.ensures (again 3 c.in_ok-column_labels.ensures (again 2 c.in_ok-data.ensures (again 1 c.in_ok-caption.ensures (stopped 0 c.in_err-footer.ensures)))))))

pub returns : goal.returns
returns c = (more_gives {n = 6} c.in_ok-layers.ensures (more_gives {n = 5} c.in_ok-corner.ensures (more_gives {n = 4} c.in_ok-row_labels.ensures (more_gives {n = 3} c.in_ok-column_labels.ensures (more_gives {n = 2} c.in_ok-data.ensures (more_gives {n = 1} c.in_ok-caption.ensures (more_gives {n = 0} c.in_ok-footer.ensures none_gives)))))))
