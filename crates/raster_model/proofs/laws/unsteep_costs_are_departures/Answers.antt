use Rattle.raster_model.proofs.Unsteep.{unsteep_certificate_fits, unsteep_cost, unsteep_faces, unsteep_flows, unsteep_seam_certificate_fits}
use Rattle.raster_model.proofs.laws.unsteep_costs_are_departures.Goals as goal

pub returns-clause-cost : goal.returns-clause-cost
returns-clause-cost c = unsteep_cost

pub returns-clause-faces : goal.returns-clause-faces
returns-clause-faces c = unsteep_faces

pub returns-clause-flows : goal.returns-clause-flows
returns-clause-flows c = unsteep_flows

pub returns-clause-faces_back : goal.returns-clause-faces_back
returns-clause-faces_back c = unsteep_certificate_fits

pub returns-clause-flows_back : goal.returns-clause-flows_back
returns-clause-flows_back c = unsteep_seam_certificate_fits
