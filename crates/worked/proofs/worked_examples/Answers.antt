use Rattle.worked.proofs.OneHouse.{one_house_answers, wrong_counter}
use Rattle.worked.proofs.Quantities.{load_wraps, coldest_tie, flags_of_two, probe_limit, faulty_probe_alone}
use Rattle.worked.proofs.ThreeHouses.{circle_of_direct_lines}
use Rattle.worked.proofs.TwoHouses.{two_houses_accepted, back_line_from_head}
use Rattle.worked.proofs.worked_examples.Goals as goal

pub returns : goal.returns
returns g c =
    record {
      one_house_answers = one_house_answers g.row.V.Denot g.row.F.Denot;
      wrong_counter = wrong_counter;
      two_houses_accepted = two_houses_accepted;
      back_line_from_head = back_line_from_head;
      circle_of_direct_lines = circle_of_direct_lines;
      load_wraps = load_wraps;
      coldest_tie = coldest_tie;
      flags_of_two = flags_of_two;
      probe_limit = probe_limit g.row.V.Denot g.row.F.Denot;
      faulty_probe_alone = faulty_probe_alone;
    }
