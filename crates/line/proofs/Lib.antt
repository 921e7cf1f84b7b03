mod Bounding
mod Counting
mod Marking
mod Most
mod Parcels
mod Queues
mod Rings
mod Seeing
