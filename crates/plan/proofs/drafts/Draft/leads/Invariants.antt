use Rattle.std.proofs.Common.{◌-◌, ◌<◌}
use Rattle.plan.specs.Rules.{lines_of, Leads}
use Rattle.plan.proofs.drafts.Draft.leads.Given as goal

abbrev pub invariant-loop-step : goal.invariant-loop-step
invariant-loop-step l =
    (l.at < l.self.houses)
    × (Leads l.way (lines_of l.self) (l.self.houses - l._step) l.at → Leads l.way (lines_of l.self) (l.self.houses - 1) l.house)
    × (Leads l.way (lines_of l.self) (l.self.houses - 1) l.house → Leads l.way (lines_of l.self) (l.self.houses - l._step) l.at)
