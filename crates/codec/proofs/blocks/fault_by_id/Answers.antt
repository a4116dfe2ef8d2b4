use native.Mathlib.Omega.{arith}
use Rattle.codec.specs.Technology.{uwb, cs, nan, rssi}
use Rattle.codec.proofs.Cells.{rssi_cell, fault_of, fault_past}
use Rattle.codec.proofs.blocks.fault_by_id.Goals as goal

pub returns-in-0 : goal.returns-in-0
returns-in-0 g c k u s n = fault_of k c.args.m.now c.args.at uwb c.in-0.is u c.block_fault.ensures

pub returns-in-1 : goal.returns-in-1
returns-in-1 g c k u s n = fault_of k c.args.m.now c.args.at cs c.in-1.is s c.block_fault-in-1.ensures

pub returns-in-2 : goal.returns-in-2
returns-in-2 g c k u s n = fault_of k c.args.m.now c.args.at nan c.in-2.is n c.block_fault-in-2.ensures

pub returns-in-3 : goal.returns-in-3
returns-in-3 g c k u s n = fault_of k c.args.m.now c.args.at rssi c.in-3.is (rssi_cell k) c.block_fault-in-3.ensures

pub returns-in_default : goal.returns-in_default
returns-in_default g c k u s n = fault_past k c.args.m.now c.args.at (omega arith) c.size_fault.ensures
